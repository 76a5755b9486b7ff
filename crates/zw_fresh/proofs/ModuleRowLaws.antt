-- The methods of Module keep points alike; and so do all primitive methods.
use Rattle.std.specs.Prelude.{Bool, List, ◌++◌, codes, if◌then◌else◌}
use Rattle.std.proofs.Common.{refl, sym, subst}
use Rattle.zw_def.specs.Text.{Text}
use Rattle.zw_def.specs.Constant.{is_constant}
use Rattle.zw_def_world.specs.Row.{of_kernel, of_module, of_class, of_object, of_nil, of_integer, of_string, of_symbol, of_array, of_exception, ModuleRow, module_name, module_covers, module_less, module_less_or_same, module_greater, module_greater_or_same, module_ancestors, module_include, module_extend, module_includes, module_attr_reader, module_attr_writer, module_attr_accessor, module_private, module_public, module_private_class_method, module_const_get, module_const_defined, module_autoload, module_method_defined}
use Rattle.zw_def_world.specs.Value.{Value, text_in}
use Rattle.zw_def_world.specs.MethodLine.{is_kind_of}
use Rattle.zw_def_world.specs.Making.{makes_array, fails}
use Rattle.zw_def_world.specs.CoreClass.{NameError}
use Rattle.zw_def_world.specs.Site.{Site, yes_or_no, on_module}
use Rattle.zw_def_world.specs.ModuleRows.{modules_of, is_defined, has_public_instance, module_act}
use Rattle.zw_def_world.specs.Act.{Act, reading}
use Rattle.zw_def_world.proofs.EvolutionLaws.{gives_keeps}
use Rattle.zw_def_world.proofs.FaultLaws.{makes_text_keeps, makes_array_keeps}
use Rattle.zw_def_world.proofs.RowLaws.{yes_or_no_keeps}
use Rattle.zw_fresh.specs.Renaming.{ren}
use Rattle.zw_fresh.specs.CalmCode.{PlainRow}
use Rattle.zw_fresh.specs.Alike.{Setting}
use Rattle.zw_fresh.proofs.ActLaws.{Alike, gives_alike, if_alike, reading_alike}
use Rattle.zw_fresh.proofs.AncestorLaws.{ancestors_found}
use Rattle.zw_fresh.proofs.TextLaws.{class_text_found}
use Rattle.zw_fresh.proofs.MethodLaws.{is_kind_found}
use Rattle.zw_fresh.proofs.FaultLaws.{ren_list, fails_alike, makes_text_alike, makes_array_alike}
use Rattle.zw_fresh.proofs.ValueLaws.{text_same}
use Rattle.zw_fresh.proofs.SiteLaws.{yes_or_no_alike}
use Rattle.zw_fresh.proofs.NumberRowLaws.{integer_alike, nil_alike, string_alike, symbol_alike}
use Rattle.zw_fresh.proofs.ArrayRowLaws.{array_alike}
use Rattle.zw_fresh.proofs.CallLaws.{SiteAlike, RowsAlike}
use Rattle.zw_fresh.proofs.ModuleChangeLaws.{by_modules, by_name, special_alike}
use Rattle.zw_fresh.proofs.KernelRowLaws.{on_module_row, by_first, kernel_alike}
use Rattle.zw_fresh.proofs.ObjectRowLaws.{class_alike, object_alike, exception_alike}
use Rattle.zw_fresh.proofs.ModuleQuestionLaws.{modules_same, order_found, order_or_found, included_found, public_found, defined_found}

-- ---- the methods of Module

module _ {calm : Bool} {S : Setting calm} {old : Text → Bool} where
  module_alike : (s : Site) → SiteAlike S old s → (row : ModuleRow) → PlainRow calm (of_module row) → (r : Value)
      (vs : List Value) → Alike S old (module_act s row r vs) (module_act s row (ren S.lift r) (ren_list S.lift vs))
  module_alike s of_s module_name h r vs = on_module_row _ _
      (λ i. reading_alike (λ w w' W. class_text_found W i) makes_text_alike makes_text_keeps) r
  module_alike s of_s module_covers h r vs = by_first (λ v. on_module r (λ i. reading (λ w. is_kind_of w v i) yes_or_no))
      (λ v. on_module (ren S.lift r) (λ i. reading (λ w. is_kind_of w v i) yes_or_no))
      (λ v. on_module_row _ _ (λ i. reading_alike (λ w w' W. is_kind_found W v i) yes_or_no_alike yes_or_no_keeps) r) vs
  module_alike s of_s module_less h r vs = by_modules _ _
      (λ i j. reading_alike (λ w w' W. order_found W i j) gives_alike gives_keeps) r vs
  module_alike s of_s module_less_or_same h r vs = by_modules _ _
      (λ i j. reading_alike (λ w w' W. order_or_found W i j) gives_alike gives_keeps) r vs
  module_alike s of_s module_greater h r vs = by_modules _ _
      (λ i j. reading_alike (λ w w' W. order_found W j i) gives_alike gives_keeps) r vs
  module_alike s of_s module_greater_or_same h r vs = by_modules _ _
      (λ i j. reading_alike (λ w w' W. order_or_found W j i) gives_alike gives_keeps) r vs
  module_alike s of_s module_ancestors h r vs = on_module_row _ _ (λ i. reading_alike (λ w w' W. ancestors_found W i)
      (λ is. subst (λ l. Alike S old (makes_array (modules_of is)) (makes_array l)) (sym (modules_same S.lift is))
      (makes_array_alike (modules_of is))) (λ is. makes_array_keeps (modules_of is))) r
  module_alike s of_s module_include h r vs = special_alike calm S old s module_include refl h r vs
  module_alike s of_s module_extend h r vs = special_alike calm S old s module_extend refl h r vs
  module_alike s of_s module_includes h r vs = by_modules _ _
      (λ i j. reading_alike (λ w w' W. included_found W i j) yes_or_no_alike yes_or_no_keeps) r vs
  module_alike s of_s module_attr_reader h r vs = special_alike calm S old s module_attr_reader refl h r vs
  module_alike s of_s module_attr_writer h r vs = special_alike calm S old s module_attr_writer refl h r vs
  module_alike s of_s module_attr_accessor h r vs = special_alike calm S old s module_attr_accessor refl h r vs
  module_alike s of_s module_private h r vs = special_alike calm S old s module_private refl h r vs
  module_alike s of_s module_public h r vs = special_alike calm S old s module_public refl h r vs
  module_alike s of_s module_private_class_method h r vs = special_alike calm S old s module_private_class_method refl h r vs
  module_alike s of_s module_const_get h r vs =
      by_first (λ v. gets s r (text_in v)) (λ v. gets s (ren S.lift r) (text_in v)) (λ v.
      subst (λ n. Alike S old (gets s r (text_in v)) (gets s (ren S.lift r) n)) (sym (text_same S.lift v))
      (if_alike (is_constant (text_in v)) (on_module_row (s.constant (text_in v)) (s.constant (text_in v)) (of_s.constant (text_in v)) r)
      (fails_alike 19 refl (codes "wrong constant name " ++ text_in v)))) vs
    where
      gets : Site → Value → Text → Act
      gets s r n = if is_constant n then on_module r (s.constant n) else fails NameError (codes "wrong constant name " ++ n)
  module_alike s of_s module_const_defined h r vs = by_name (λ n i. reading (λ w. is_defined w n i) yes_or_no)
      (λ n i. reading (λ w. is_defined w n i) yes_or_no)
      (λ n i. reading_alike (λ w w' W. defined_found W n i) yes_or_no_alike yes_or_no_keeps) r vs
  module_alike s of_s module_autoload h r vs = special_alike calm S old s module_autoload refl h r vs
  module_alike s of_s module_method_defined h r vs = by_name (λ n i. reading (λ w. has_public_instance w i n) yes_or_no)
      (λ n i. reading (λ w. has_public_instance w i n) yes_or_no)
      (λ n i. reading_alike (λ w w' W. public_found W i n) yes_or_no_alike yes_or_no_keeps) r vs

-- ---- all of them

pub rows_alike : {calm : Bool} (S : Setting calm) → RowsAlike S
rows_alike S old s of_s (of_kernel row) h r vs = kernel_alike s of_s row h r vs
rows_alike S old s of_s (of_module row) h r vs = module_alike s of_s row h r vs
rows_alike S old s of_s (of_class row) h r vs = class_alike s of_s row r vs
rows_alike S old s of_s (of_object row) h r vs = object_alike s row r vs
rows_alike S old s of_s (of_nil row) h r vs = nil_alike s row r vs
rows_alike S old s of_s (of_integer row) h r vs = integer_alike s row r vs
rows_alike S old s of_s (of_string row) h r vs = string_alike s row r vs
rows_alike S old s of_s (of_symbol row) h r vs = symbol_alike s row r vs
rows_alike S old s of_s (of_array row) h r vs = array_alike s row r vs
rows_alike S old s of_s (of_exception row) h r vs = exception_alike s row r vs
