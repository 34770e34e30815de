-- A search by halves among the places finds what a search from the front finds among the records.
use Rattle.std.proofs.Common.{◌≡◌, ◌==◌, ◌∙◌, ap, rules, subst, sym}
use Rattle.std.specs.Prelude.{option_and_then}
use Rattle.std.specs.List.{find}
use Rattle.std.proofs.lemmas.List.Sorted.{answers_always}
use Rattle.eeprom.specs.Slots.{Rises}
use Rattle.card.specs.KeptRecords.{stamp_of}
use Rattle.card.specs.Pool.{record_at}
use Rattle.card.specs.declared.kept_record.KeptRecord.{KeptRecord}
use Rattle.card.proofs.Pooled.{find-entries, items-seen, place-at, place_stamp, rise-places}
use Rattle.card.proofs.Stamped.{searched-Ok, searched-Err}
use Rattle.card.proofs.kept_records.KeptRecords.find.Goals as goal

pub spelled_at-requires : goal.spelled_at-requires
spelled_at-requires c =
    rw c.as_slice.ensures.value (place-at c.self.inside.octets.items c.self.inside.places.items c.in-Ok.index c.index.result.now c.self.invariant.all (rw c.deref.ensures.value at c.in-Ok.ensures.bound) c.index.ensures)

pub returns-in-Ok : goal.returns-in-Ok
returns-in-Ok c =
    let octets = c.self.inside.octets.items in
    let places = c.self.inside.places.items in
    let seen = items-seen octets places _ c.args.self.now c.self.view_is in
    let is = rw c.deref.ensures.value at (c.in-Ok.ensures.position place_stamp (answers_always _ (λ a r. r ≡ place_stamp a.0.now) _ (λ f a r f' k. search rules))) in
    let rises = rise-places octets places c.self.invariant.all (subst (Rises stamp_of) (sym seen) c.requires.rises) in
    let there = searched-Ok place_stamp places c.args.stamp c.in-Ok.index c.index.result.now rises (rw c.deref.ensures.value at c.in-Ok.ensures.bound) is c.index.ensures in
    c.spelled_at.ensures ∙ ap (λ o. record_at o c.index.result.now) c.as_slice.ensures.value ∙ ap (option_and_then (record_at octets)) there ∙ sym (find-entries octets places c.args.stamp c.self.invariant.all)
    ∙ ap (find (λ (r : KeptRecord). stamp_of r == c.args.stamp)) seen

pub returns-in-Err : goal.returns-in-Err
returns-in-Err c =
    let octets = c.self.inside.octets.items in
    let places = c.self.inside.places.items in
    let seen = items-seen octets places _ c.args.self.now c.self.view_is in
    let is = rw c.deref.ensures.value at (c.in-Err.ensures.position place_stamp (answers_always _ (λ a r. r ≡ place_stamp a.0.now) _ (λ f a r f' k. search rules))) in
    let rises = rise-places octets places c.self.invariant.all (subst (Rises stamp_of) (sym seen) c.requires.rises) in
    let none = searched-Err place_stamp places c.args.stamp c.in-Err.field-0 rises is in
    ap (option_and_then (record_at octets)) none ∙ sym (find-entries octets places c.args.stamp c.self.invariant.all) ∙ ap (find (λ (r : KeptRecord). stamp_of r == c.args.stamp)) seen
