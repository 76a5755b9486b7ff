-- The replies to requests, and the counts.
use Rattle.std.proofs.Common.{◌≡◌, ◌≢◌, ◌++◌, ℕ, Option, Some, None, Err, codes, refl, sym, ap, subst, ◌∙◌}
use Rattle.zw_def.specs.Text.{Text}
use Rattle.zw_def.specs.Told.{AppendsFront}
use Rattle.zw_cmd.specs.declared.command.Got.{Got}
use Rattle.zw_io.specs.LineAnswers.{Counts}
use Rattle.zw_io.specs.declared.lines.LinesFault.{LinesFault}
use Rattle.zw_io.specs.declared.lines.LinesFault.TheVariants as lines
use Rattle.zw_def_thin.specs.Output.{text_of_lines}
use Rattle.zw_top.specs.Reply.{PutsLine, RepliesTo, CutsShort, CountsCut, CountsReply, CountsServed}
use Rattle.zw_top.specs.Script.{Request}
use Rattle.zw_top.specs.Session.{answer_to}
use Rattle.zw_top.specs.declared.session.Session as code
use Rattle.zw_top.proofs.OutputLemmas.{front_none}
use Rattle.zw_top.specs.declared.status.Status.{Status}
use Rattle.zw_top.specs.declared.status.Status.TheVariants.{Done, Usage, Config, ReadFault, WriteFault, FolderFault, Memory, Limit}

-- ---- the pieces of the code

pub cut_line : (status : Status) (fault : LinesFault) (line : Text) (first now : Option Text) → fault ≡ lines.TooMuch → line ≡ codes "limit: stream" → PutsLine (Err status) line first now → CutsShort status fault first now
cut_line WriteFault fault line first now is same puts = (is, subst (λ (t : Text). AppendsFront first now (t ++ codes "\n")) same puts)
cut_line Memory fault line first now is same puts = (λ read. (let e : lines.TooMuch ≡ lines.ReadFault = sym is ∙ read in cc), puts)
cut_line Done fault line first now is same puts = absurd puts
cut_line Usage fault line first now is same puts = absurd puts
cut_line Config fault line first now is same puts = absurd puts
cut_line ReadFault fault line first now is same puts = absurd puts
cut_line FolderFault fault line first now is same puts = absurd puts
cut_line Limit fault line first now is same puts = absurd puts

-- want of memory writes nothing
pub lacks_replies : (old new : code.Session) (asked : Option Request) (now : Option Text) → RepliesTo (Err Memory) old new asked now now
lacks_replies old new None now = (tt, refl)
lacks_replies old new (Some r) now = λ s stands. front_none now (text_of_lines (answer_to r s).lines)

pub tie : {S : Type 0} (left : S → Option Text) (final source : S) (later : Option Text) (fault : LinesFault) → final ≡ source → (fault ≡ lines.ReadFault → later ≡ left source) → fault ≡ lines.ReadFault → later ≡ left final
tie left final source later fault same drained is = drained is ∙ ap left (sym same)

pub no_read : (fault : LinesFault) (s t : ℕ) → fault ≢ lines.ReadFault → Counts {T = Got} (Err fault) s t → t ≡ s
no_read lines.ReadFault s t other counts = absurd (other refl)
no_read lines.TooMuch s t other counts = counts
no_read lines.Memory s t other counts = counts

pub cut_counts : (status : Status) (fault : LinesFault) (now new : Option Text) (s t k m : ℕ) → Counts {T = Got} (Err fault) s t → CutsShort status fault now new → CountsCut status k m → CountsServed status s t k m
cut_counts ReadFault fault now new s t k m counts cuts kept = (subst (λ (f : LinesFault). Counts {T = Got} (Err f) s t) cuts.0 counts, kept)
cut_counts Memory fault now new s t k m counts cuts kept = (no_read fault s t cuts.0 counts, kept)
cut_counts Limit fault now new s t k m counts cuts kept = (subst (λ (f : LinesFault). Counts {T = Got} (Err f) s t) cuts.0 counts, kept)
cut_counts WriteFault fault now new s t k m counts cuts kept = (subst (λ (f : LinesFault). Counts {T = Got} (Err f) s t) cuts.0 counts, kept)
cut_counts Done fault now new s t k m counts cuts kept = absurd cuts
cut_counts Usage fault now new s t k m counts cuts kept = absurd cuts
cut_counts Config fault now new s t k m counts cuts kept = absurd cuts
cut_counts FolderFault fault now new s t k m counts cuts kept = absurd cuts

pub reply_counts : (status : Status) (s t k m : ℕ) → t ≡ s → CountsReply (Err status) k m → CountsServed status s t k m
reply_counts Memory s t k m same kept = (same, kept)
reply_counts Done s t k m same kept = (same, kept)
reply_counts WriteFault s t k m same kept = (same, kept)
reply_counts Usage s t k m same kept = absurd kept
reply_counts Config s t k m same kept = absurd kept
reply_counts ReadFault s t k m same kept = absurd kept
reply_counts FolderFault s t k m same kept = absurd kept
reply_counts Limit s t k m same kept = absurd kept

-- the same at equal counts
pub counts_at : (status : Status) (s t k m a b e f : ℕ) → CountsServed status a b e f → a ≡ s → b ≡ t → e ≡ k → f ≡ m → CountsServed status s t k m
counts_at status s t k m a b e f counts p q r u =
    subst (λ (x : ℕ). CountsServed status s t k x) u (subst (λ (x : ℕ). CountsServed status s t x f) r (subst (λ (x : ℕ). CountsServed status s x e f) q (subst (λ (x : ℕ). CountsServed status x b e f) p counts)))
