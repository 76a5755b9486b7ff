use Rattle.std.proofs.Common.{map, Result, Ok, refl, ap, ◌∙◌}
use Rattle.std.specs.declared.alloc.AllocError.{AllocError}
use Rattle.zw_def_world.specs.Act.{Act, gives}
use Rattle.zw_def_world.specs.Argument.{symbol_arguments}
use Rattle.zw_def_world.specs.StringRows.{symbol_act}
use Rattle.zw_heap.specs.Telling.{tell}
use Rattle.zw_heap.specs.declared.value.Value.TheVariants as v
use Rattle.zw_calls.specs.SymbolRow.{symbol_row_seen}
use Rattle.zw_calls.specs.declared.end.PrimEnd.{PrimEnd}
use Rattle.zw_calls.specs.declared.end.PrimEnd.TheVariants as e
use Rattle.zw_calls.proofs.CallLemmas.{refused, passed}
use Rattle.zw_strings.proofs.symbol.apply.Goals as goal

pub returns-in-Some : goal.returns-in-Some
returns-in-Some c = λ left.
    let row = (symbol_row_seen c.args.row).1 in
    let receiver = v.Sym c.args.receiver in
    refused c.args.names.now c.args.heap.now (symbol_arguments row) receiver c.args.args.now c.in_ok-raise.field-0 _ c.arguments.ensures c.in_ok-raise.ensures
    (λ s I. symbol_act s row (tell I receiver) (map (tell I) c.args.args.now)) left c.in-Some.raise c.in-Some.is

pub returns : goal.returns
returns c = λ left.
    let row = (symbol_row_seen c.args.row).1 in
    let receiver = v.Sym c.args.receiver in
    let value = c.in_ok-value.value in
    let end : Result PrimEnd AllocError = Ok (e.Value value) in
    passed c.args.names.now c.args.heap.now (symbol_arguments row) receiver c.args.args.now c.in_ok-raise.field-0 _ c.arguments.ensures c.in_ok-raise.ensures
    (λ s I. symbol_act s row (tell I receiver) (map (tell I) c.args.args.now)) c.args.heap.now left left end c.in_default.is
    (record { adds = λ I names fit. fit; stays = λ x held. held; records = refl })
    (record {
      told = λ s I p fit agrees e. ap (λ (act : Act). act p) (c.in_ok-value.ensures.told s I fit) ∙ ap (λ n. gives (tell I value) (record p { left = n })) e;
      held = c.in_ok-value.ensures.held;
      done = tt;
    })
