-- A test of neighbours tells whether the stamps rise.
use Rattle.std.proofs.Common.{rules, ltb, subst, sym}
use Rattle.std.proofs.lemmas.List.Sorted.{answers_always}
use Rattle.eeprom.specs.Slots.{Rises}
use Rattle.card.specs.KeptRecords.{stamp_of}
use Rattle.card.proofs.Pooled.{items-seen, place_stamp, rise-entries, rise-places}
use Rattle.card.proofs.Sorting.{rises-answered}
use Rattle.card.proofs.kept_records.KeptRecords.do_stamps_rise.Goals as goal

pub returns : goal.returns
returns c =
    let octets = c.self.inside.octets.items in
    let places = c.self.inside.places.items in
    let seen = items-seen octets places _ c.args.self.now c.self.view_is in
    let told = rises-answered place_stamp c.deref.result.now c.is_sorted_by.result (c.is_sorted_by.ensures.cases (λ a b. ltb (place_stamp a) (place_stamp b)) (answers_always _ _ _ (λ f a r f' q. search rules))) in (
      λ yes. subst (Rises stamp_of) seen (rise-entries octets places c.self.invariant.all (subst (Rises place_stamp) c.deref.ensures.value (told.0 yes))),
      λ rises. told.1 (subst (Rises place_stamp) (sym c.deref.ensures.value) (rise-places octets places c.self.invariant.all (subst (Rises stamp_of) (sym seen) rises))),
    )
