-- A condition is read, or the octets are none.
use Rattle.std.proofs.Common.{◌≡◌, ◌≤◌, ◌<◌, [], ◌∷◌, ◌++◌, length, sym, ◌∙◌, ap, arith, rules, length-append}
use Rattle.scql_base.specs.Strings.{params_of, with_string}
use Rattle.apdu.proofs.NamesRead.{behind-next}
use Rattle.apdu.proofs.ListsRead.{condition_of-some, conditions_in-many, conditions_in-stuck, conditions_of, conditions-next, conditions-tested, are-next}
use Rattle.apdu.proofs.lists.conditions_in.Goals as goal

pub returns-in_err-condition : goal.returns-in_err-condition
returns-in_err-condition c =
    let here = c.in-Some.ensures.some ∙ ap (with_string c.in-Some.column.now) (c.in_ok-comparison.ensures.some ∙ ap (with_string c.in_ok-comparison.comparison.now) c.in_ok-value.ensures.some) in
    c.from_residual-in_err-condition.ensures
    ∙ (conditions_in-stuck c.loop-column.conditions c.in-Some.column.now c.in_ok-comparison.comparison.now c.in_ok-value.value.now (params_of c.loop-column.rest.now) (params_of c.in_ok-value.after.now)
    (conditions_of (params_of c.args.octets.now)) here c.loop-column.invariant.told (sym c.in_err-condition.ensures)
    ∙ conditions-tested (params_of c.args.octets.now))

pub returns-in_err-ok : goal.returns-in_err-ok
returns-in_err-ok c =
    let here = c.in-Some.ensures.some ∙ ap (with_string c.in-Some.column.now) (c.in_ok-comparison.ensures.some ∙ ap (with_string c.in_ok-comparison.comparison.now) c.in_ok-value.ensures.some) in
    let read = condition_of-some c.in-Some.column.now c.in_ok-comparison.comparison.now c.in_ok-value.value.now c.in_ok-condition.condition (sym c.in_ok-condition.ensures) in
    let next = conditions-next c.in-Some.column.now c.in_ok-comparison.comparison.now c.in_ok-value.value.now c.in_ok-condition.condition (params_of c.loop-column.rest.now) (params_of c.in_ok-value.after.now) read here in
    let full : 8 ≤ length c.loop-column.conditions = search rules in
    c.from_residual-in_err-ok.ensures
    ∙ (conditions_in-many c.loop-column.conditions c.in_ok-condition.condition (conditions_of (params_of c.loop-column.rest.now)) (conditions_of (params_of c.in_ok-value.after.now)) (conditions_of (params_of c.args.octets.now))
    full c.loop-column.invariant.told next
    ∙ conditions-tested (params_of c.args.octets.now))

pub loop-column-preserved : goal.loop-column-preserved
loop-column-preserved c =
    let here = c.in-Some.ensures.some ∙ ap (with_string c.in-Some.column.now) (c.in_ok-comparison.ensures.some ∙ ap (with_string c.in_ok-comparison.comparison.now) c.in_ok-value.ensures.some) in
    let read = condition_of-some c.in-Some.column.now c.in_ok-comparison.comparison.now c.in_ok-value.value.now c.in_ok-condition.condition (sym c.in_ok-condition.ensures) in
    let next = conditions-next c.in-Some.column.now c.in_ok-comparison.comparison.now c.in_ok-value.value.now c.in_ok-condition.condition (params_of c.loop-column.rest.now) (params_of c.in_ok-value.after.now) read here in
    let pushed : c.push.new.self ≡ c.loop-column.conditions ++ c.in_ok-condition.condition ∷ [] = search rules in
    let room : length c.loop-column.conditions < 8 = search rules in
    record {
      told = rw pushed (behind-next c.loop-column.conditions c.in_ok-condition.condition (conditions_of (params_of c.loop-column.rest.now)) (conditions_of (params_of c.in_ok-value.after.now)) (conditions_of (params_of c.args.octets.now))
          c.loop-column.invariant.told next);
      few = rw (pushed, length-append c.loop-column.conditions (c.in_ok-condition.condition ∷ [])) (omega (arith, room));
      each = rw pushed (are-next c.loop-column.conditions c.in_ok-condition.condition c.loop-column.invariant.each read.each);
    }
