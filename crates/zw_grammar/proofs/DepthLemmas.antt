-- What reads to a depth, by what reads one less deep.
use Rattle.std.proofs.Common.{◌≡◌, ◌≢◌, ℕ, zero, suc, ◌-◌, ◌<◌, List, Some, None, Result, Ok, Err, refl, ap, sym, ◌∙◌, arith}
use Rattle.zw_base.specs.declared.fault.Fault.{Fault}
use Rattle.zw_base.specs.declared.fault.Fault.TheVariants.{Memory}
use Rattle.zw_def.specs.Text.{Text}
use Rattle.zw_def_syntax.specs.Input.{Input}
use Rattle.zw_def_syntax.specs.Compound.{Reader}
use Rattle.zw_def_syntax.specs.Grammar.{within}
use Rattle.zw_ast.specs.declared.grown.Malformed.{Malformed}
use Rattle.zw_expr.specs.declared.grammar.Within.{Within}
use Rattle.zw_expr.specs.declared.grammar.Within.TheVariants as w
use Rattle.zw_expr.specs.declared.grammar.Read.{Read}
use Rattle.zw_expr.specs.declared.grammar.Read.TheVariants as r
use Rattle.zw_expr.specs.Nests.{ReadsWithin, form_seen}
use Rattle.zw_grammar.specs.Part.{reader_of}
use Rattle.zw_grammar.specs.ReadsAs.{ReadsAs}

no_depth : (names : List Text) (what : Within) (old new : Input) (fault : Fault Malformed) → ReadsWithin names 0 what old (Err fault) new
unfolding within
no_depth names (w.Tree form) old new fault = λ known. refl
no_depth names w.Program old new fault = λ known. refl

-- at depth nothing stands within
pub at_zero : (names : List Text) (depth : ℕ) (what : Within) (old new : Input) (fault : Fault Malformed) → depth ≡ 0 → ReadsWithin names depth what old (Err fault) new
at_zero names depth what old new fault is = rw is (no_depth names what old new fault)

one_deeper : (depth : ℕ) → within (suc depth) ≡ reader_of (within depth)
unfolding within
one_deeper depth = refl

deeper : (depth : ℕ) → 0 < depth → within depth ≡ reader_of (within (depth - 1))
deeper depth some =
    let is : depth ≡ suc (depth - 1) = omega (arith, some) in
    ap within is ∙ one_deeper (depth - 1)

-- a reader that is that of the depth
as_within : (names : List Text) (depth : ℕ) (reader : Reader) (what : Within) (old new : Input) (result : Result Read (Fault Malformed)) → within depth ≡ reader → ReadsAs names reader what old result new → ReadsWithin names depth what old result new
as_within names depth reader (w.Tree form) old new (Ok (r.Tree tree)) is reads = ap (λ x. x.tree (form_seen form) old) is ∙ reads
as_within names depth reader (w.Tree form) old new (Ok (r.Program all)) is reads = reads
as_within names depth reader (w.Tree form) old new (Err fault) is reads = λ known. ap (λ x. x.tree (form_seen form) old) is ∙ reads known
as_within names depth reader w.Program old new (Ok (r.Tree tree)) is reads = reads
as_within names depth reader w.Program old new (Ok (r.Program all)) is reads = ap (λ x. x.program old) is ∙ reads
as_within names depth reader w.Program old new (Err fault) is reads = λ known. ap (λ x. x.program old) is ∙ reads known

pub at_depth : (names : List Text) (depth : ℕ) (what : Within) (old new : Input) (result : Result Read (Fault Malformed)) → 0 < depth → ReadsAs names (reader_of (within (depth - 1))) what old result new → ReadsWithin names depth what old result new
at_depth names depth what old new result some reads = as_within names depth _ what old new result (deeper depth some) reads
