use Rattle.std.proofs.Common.{codes, ap, sym}
use Rattle.zw_def_world.specs.Argument.{kind_text}
use Rattle.zw_calls.specs.Kind.{kind_seen}
use Rattle.zw_calls.specs.declared.kind.Kind.{Kind}
use Rattle.zw_calls.proofs.kind.Kind.name.Goals as goal

pub returns-in-Integer : goal.returns-in-Integer
returns-in-Integer c = ap (λ (k : Kind). codes (kind_text (kind_seen k))) (sym c.in-Integer.is)

pub returns-in-String : goal.returns-in-String
returns-in-String c = ap (λ (k : Kind). codes (kind_text (kind_seen k))) (sym c.in-String.is)

pub returns-in-Symbol : goal.returns-in-Symbol
returns-in-Symbol c = ap (λ (k : Kind). codes (kind_text (kind_seen k))) (sym c.in-Symbol.is)

pub returns-in-Array : goal.returns-in-Array
returns-in-Array c = ap (λ (k : Kind). codes (kind_text (kind_seen k))) (sym c.in-Array.is)

pub returns-in-Module : goal.returns-in-Module
returns-in-Module c = ap (λ (k : Kind). codes (kind_text (kind_seen k))) (sym c.in-Module.is)

pub returns-in-Any : goal.returns-in-Any
returns-in-Any c = ap (λ (k : Kind). codes (kind_text (kind_seen k))) (sym c.in-Any.is)
