-- After a reload a session is alike to a fresh process over the tree that it mounts.
use Rattle.std.specs.Prelude.{◌≡◌, Bool, false, List, [], Option, Some, None}
use Rattle.std.proofs.Common.{refl, sym, ap, ◌∙◌, subst, append-nil}
use Rattle.zw_lemmas.proofs.OptionLemmas.{none_is}
use Rattle.zw_def.specs.Text.{Text}
use Rattle.zw_def.specs.Tree.{Tree}
use Rattle.zw_def.specs.ConstantPath.{ConstantPath}
use Rattle.zw_def.specs.Expected.{WrongName}
use Rattle.zw_def.specs.Map.{map_of}
use Rattle.zw_def_world.specs.Value.{Value, nil}
use Rattle.zw_def_world.specs.Table.{Table, at}
use Rattle.zw_def_world.specs.World.{World, mounted, restored}
use Rattle.zw_def_world.specs.Frame.{top_frame}
use Rattle.zw_def_world.specs.BootTable.{boot_of}
use Rattle.zw_def_world.specs.Act.{read, changing}
use Rattle.zw_def_world.specs.Session.{Session, Settings, with_fault, at_end, start, end_phase}
use Rattle.zw_def_world.specs.Setup.{is_told, paths_in, mounts, setup_namespaces, first_wrong_of, sets_up_or_not, sets_up_in, set_up_mounted, set_up, does}
use Rattle.zw_fresh.specs.Alike.{Worlds}
use Rattle.zw_fresh.specs.Sessions.{Sessions}
use Rattle.zw_fresh.specs.Setups.{Past}
use Rattle.zw_fresh.specs.Fresh.{fresh_session, restored_session, older}
use Rattle.zw_fresh.proofs.FreshLaws.{fresh_setting, fresh_plain, restored_modules, reloaded_alike}
use Rattle.zw_fresh.proofs.BootTableLaws.{boot_of_same, is_told_same}
use Rattle.zw_fresh.proofs.SettingUpLaws.{set_up_same}

-- ---- a tree is mounted

-- where no record is missing
mounts_so : (tree : Tree) (s : Session) (b : Bool) → is_told s.world (paths_in s.world.setting.layout tree) ≡ Some b
    → does (mounts tree) s
    ≡ record s { world = mounted tree (map_of s.world.setting.layout tree (boot_of s.world)) s.world }
mounts_so tree s b told =
    ap (λ o.
    let e = read o (λ told. changing (λ w. mounted tree (map_of w.setting.layout tree (boot_of w)) w) nil) (start (top_frame []) s) in
    with_fault e (at_end e s)) told

-- a setup forgets that the last one raised
down_is_forgotten : (b : Bool) (s : Session) → set_up_mounted (record s { is_down = b }) ≡ set_up_mounted s
down_is_forgotten b s = ap end_phase (at (setup_namespaces s.world))
  where
    by : (ps : List ConstantPath) (o : Option WrongName)
        → sets_up_or_not ps o (record s { is_down = b }) ≡ sets_up_or_not ps o s
    by ps None = refl
    by ps (Some wrong) = refl

    at : (o : Option (List ConstantPath)) → sets_up_in (record s { is_down = b }) o ≡ sets_up_in s o
    at None = refl
    at (Some ps) = by ps (first_wrong_of s.world ps)

-- What holds of the image that boot left, and of a world that came from it: boot's records are alike to themselves, no
-- record of a coming setup is made, and the setting is boot's; and boot's tables have the records that a setup reads.
pub record FromImage (image w : World) (tree : Tree) (front front' : Text) : Type 0 where
  pub first : image.setups ≡ 0
  pub none : Past image
  pub self : Worlds false (fresh_setting w.setups front front') image image
  pub later : Past w
  pub setting : w.setting ≡ image.setting
  pub told : Bool
  pub tells : is_told image (paths_in image.setting.layout tree) ≡ Some told

-- setups of a fresh process and of a session that is reloaded write the same, and leave the sessions alike, but for the
-- variables that have a value now
pub set_up_alike : (image w : World) (settings : Settings) (tree : Tree) (variables : Table Value) (is_down : Bool)
    (front front' : Text) → FromImage image w tree front front'
    → Sessions (fresh_setting w.setups front front') (older variables) (set_up (fresh_session image settings tree front))
    (set_up (restored_session image w settings tree variables is_down front'))
set_up_alike image w settings tree variables is_down front front' F =
    let S = fresh_setting w.setups front front' in
    let f = fresh_session image settings tree front in
    let u = restored_session image w settings tree variables is_down front' in
    let meet = restored_modules image w front front' F.first F.none F.self F.later in
    let layout = F.setting in
    let told' = ap (λ setting. is_told (restored image w) (paths_in setting.layout tree)) F.setting
    ∙ is_told_same S image (restored image w) meet (paths_in image.setting.layout tree) ∙ F.tells in
    let keys' : map_of w.setting.layout tree (boot_of (restored image w)) ≡ map_of image.setting.layout tree (boot_of image)
    = λ k. map_of (F.setting k).layout tree (boot_of_same S image (restored image w) meet k) in
    let mounted' : Sessions S (older variables) (mounted_fresh image settings tree front)
    (mounted_again image w settings tree variables front') = record {
      plain = fresh_plain w.setups front front';
      world = subst (λ keys. Worlds false S (mounted tree (map_of image.setting.layout tree (boot_of image)) image)
          (mounted tree keys (restored image w))) (sym keys')
          (reloaded_alike image w front front' tree (map_of image.setting.layout tree (boot_of image)) F.first F.none F.self
          F.later F.setting);
      variables = λ x h. none_is (at x variables) h;
      staged = refl;
      image = F.self;
      is_down = refl;
      settings = refl;
      out = ([], sym (append-nil front), sym (append-nil front'));
    } in
    subst (λ z. Sessions S (older variables) (set_up f) (set_up_mounted z)) (sym (mounts_so tree u F.told told'))
    (subst (λ z. Sessions S (older variables) (set_up f) z)
    (sym (down_is_forgotten is_down (mounted_again image w settings tree variables front')))
    (subst (λ z. Sessions S (older variables) (set_up_mounted z) (set_up_mounted (mounted_again image w settings tree variables front')))
    (sym (mounts_so tree f F.told F.tells)) (set_up_same _ _ mounted')))
  where
    mounted_fresh : World → Settings → Tree → Text → Session
    mounted_fresh image settings tree front =
        record (fresh_session image settings tree front) {
          world = mounted tree (map_of image.setting.layout tree (boot_of image)) image;
        }

    mounted_again : World → World → Settings → Tree → Table Value → Text → Session
    mounted_again image w settings tree variables front' =
        record (restored_session image w settings tree variables false front') {
          world = mounted tree (map_of w.setting.layout tree (boot_of (restored image w))) (restored image w);
        }
