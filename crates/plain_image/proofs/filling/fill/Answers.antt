-- A slot more.
use Rattle.std.proofs.Common.{◌≡◌, ◌∷◌, ◌-◌, ◌∙◌, List, ℕ, Some, drop, sym, ap, subst, arith}
use Rattle.eeprom.specs.StoreOf.{Slots}
use Rattle.eeprom.specs.Slots.{kept}
use Rattle.scql_model.specs.Opens.{counter_stamp, is_spelled}
use Rattle.scql_model.specs.Records.{counter_in}
use Rattle.plain_image.specs.Found.{AreCounters, is_short_object, put_found}
use Rattle.plain_image.proofs.Filled.{admitted-more, kept-more, records-more, slots-more}
use Rattle.plain_image.proofs.filling.fill.Goals as goal

pub loop-left-preserved-in-Some : goal.loop-left-preserved-in-Some
loop-left-preserved-in-Some c =
    let slots : Slots = c.args.slots.now in
    let left = c.loop-left.left in
    let octets : List ℕ = c.in-Some.entry in
    let rest : Slots = drop left slots in
    let here : drop (left - 1) slots ≡ Some octets ∷ rest =
    slots-more slots (left - 1) left (Some octets) c.index-slots-left.result (omega (arith, c.loop-left-test.true)) (omega (arith, c.loop-left-test.true, c.loop-left.invariant.within)) c.in-Some.is c.index-slots-left.is in
    let found : put_found counter_stamp (counter_in c.as_slice-octets.result.now) (kept counter_stamp counter_in rest) ≡ kept counter_stamp counter_in (drop (left - 1) slots) =
    ap (λ (o : List ℕ). put_found counter_stamp (counter_in o) (kept counter_stamp counter_in rest)) c.as_slice-octets.ensures
    ∙ sym (kept-more counter_stamp counter_in octets rest) ∙ ap (kept counter_stamp counter_in) (sym here) in
    let short = sym (c.is_short.ensures ∙ ap is_short_object c.as_slice-octets.ensures) ∙ c.if-not-is_short.false in
    let known = sym (c.in_ok-put_record.ensures.known ∙ ap (λ (o : List ℕ). is_spelled (Some o)) c.as_slice-octets.ensures) ∙ c.if-not-branch.false in
    record {
      within = omega (arith, c.loop-left.invariant.within);
      records = rw (here, ← c.as_slice-octets.ensures) (c.in_ok-put_record.ensures.put
          ∙ records-more c.args.database.now.cells c.args.database.now.limit c.as_slice-octets.result.now rest c.loop-left.database c.loop-left.invariant.records);
      counters = subst (AreCounters c.and_of-counters.result) found (c.and_of-counters.ensures (kept counter_stamp counter_in rest) c.loop-left.invariant.counters);
      limits = c.in_ok-put_record.ensures.limits c.loop-left.invariant.limits;
      admitted = rw here (admitted-more octets rest short known c.loop-left.invariant.admitted);
    }
