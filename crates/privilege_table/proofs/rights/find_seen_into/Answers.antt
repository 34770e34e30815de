-- The one object of the name is seen if it appears. Objects are read, and grants where there is one.
use Rattle.std.proofs.Common.{rules, ℕ, List, Option, Some, None, sym, ap, ◌∙◌}
use Rattle.std.specs.Prelude.{cond}
use Rattle.std.specs.List.{find}
use Rattle.eeprom.specs.StoreOf.{Slots}
use Rattle.record_store.specs.Tags.{name_tag}
use Rattle.record_store.specs.declared.tags.Tag.TheVariants.{Name}
use Rattle.scql_base.specs.declared.words.Actor.{Actor}
use Rattle.catalog_codec.specs.Catalog.{object_kind}
use Rattle.record_table.specs.Asking.{slots_asked}
use Rattle.object_table.specs.Named.{has_name}
use Rattle.record_table.specs.Listed.{in_slots}
use Rattle.record_table.specs.Tagged.{cells_tagged}
use Rattle.record_table.proofs.Asking.{same-held, same-slots}
use Rattle.record_table.proofs.ReadingCosts.{falls-both, reads-both, reads-one}
use Rattle.privilege_table.specs.Granted.{cells_granted_on}
use Rattle.privilege_table.proofs.Seen.{found-granted, seen-held}
use Rattle.privilege_table.proofs.rights.find_seen_into.Goals as goal

-- what is read of the objects, and of the grants on the one that was found
abbrev named : List ℕ → Slots → ℕ
named name slots = cells_tagged object_kind (Some (Name (name_tag name))) slots

abbrev on_found : Actor → List ℕ → Slots → ℕ
on_found actor name slots = cells_granted_on actor (find (has_name name) (in_slots object_kind slots)) slots

pub returns-in_default : goal.returns-in_default
returns-in_default g c = record {
  there = search rules;
  at = search rules;
  both = search rules;
  seen = λ db held. rw c.in_default.is (seen-held c.args.reader.now.store.now c.args.reader.now.side (g.B.Eeprom.chip c.args.reader.now.bench.now) db c.args.actor c.args.name None held (rw c.in_default.is at c.in_ok-slot.ensures.found));
  octets_read = reads-one (named c.args.name) (on_found c.args.actor c.args.name) (slots_asked c.args.reader.now) _ _ c.in_ok-slot.ensures.octets_read;
  rises = c.in_ok-slot.ensures.rises;
  goes_on = c.in_ok-slot.ensures.goes_on;
  frame = search rules;
}

pub returns-then-see : goal.returns-then-see
returns-then-see g c =
    let o = c.in-Some.object in
    let slots : Option Slots = slots_asked c.args.reader.now in
    record {
      there = search rules;
      at = search rules;
      both = search rules;
      seen = λ db held.
          let there = (c.in_ok-rights_on.ensures.rights db (same-held c.in_ok-slot.ensures.goes_on c.in_ok-slot.ensures.frame.same held)).appears ∙ (sym c.see.ensures ∙ c.if-see.true) in
          sym (ap (λ b. cond b (Some o) None) there) ∙ seen-held c.args.reader.now.store.now c.args.reader.now.side (g.B.Eeprom.chip c.args.reader.now.bench.now) db c.args.actor c.args.name (Some o) held (rw c.in-Some.is at c.in_ok-slot.ensures.found);
      octets_read = reads-both (named c.args.name) (on_found c.args.actor c.args.name) slots _ _ _ c.in_ok-slot.ensures.octets_read
          (found-granted c.args.actor c.args.name o slots _ _ (rw c.in-Some.is at c.in_ok-slot.ensures.first) (rw (same-slots c.in_ok-slot.ensures.goes_on c.in_ok-slot.ensures.frame.same) at c.in_ok-rights_on.ensures.reads.octets_read));
      rises = falls-both slots _ _ _ c.in_ok-slot.ensures.rises (rw (same-slots c.in_ok-slot.ensures.goes_on c.in_ok-slot.ensures.frame.same) at c.in_ok-rights_on.ensures.reads.rises);
      goes_on = search rules;
      frame = search rules;
    }

pub returns : goal.returns
returns g c =
    let o = c.in-Some.object in
    let slots : Option Slots = slots_asked c.args.reader.now in
    record {
      there = search rules;
      at = search rules;
      both = search rules;
      seen = λ db held.
          let there = (c.in_ok-rights_on.ensures.rights db (same-held c.in_ok-slot.ensures.goes_on c.in_ok-slot.ensures.frame.same held)).appears ∙ (sym c.see.ensures ∙ c.if-see.false) in
          sym (ap (λ b. cond b (Some o) None) there) ∙ seen-held c.args.reader.now.store.now c.args.reader.now.side (g.B.Eeprom.chip c.args.reader.now.bench.now) db c.args.actor c.args.name (Some o) held (rw c.in-Some.is at c.in_ok-slot.ensures.found);
      octets_read = reads-both (named c.args.name) (on_found c.args.actor c.args.name) slots _ _ _ c.in_ok-slot.ensures.octets_read
          (found-granted c.args.actor c.args.name o slots _ _ (rw c.in-Some.is at c.in_ok-slot.ensures.first) (rw (same-slots c.in_ok-slot.ensures.goes_on c.in_ok-slot.ensures.frame.same) at c.in_ok-rights_on.ensures.reads.octets_read));
      rises = falls-both slots _ _ _ c.in_ok-slot.ensures.rises (rw (same-slots c.in_ok-slot.ensures.goes_on c.in_ok-slot.ensures.frame.same) at c.in_ok-rights_on.ensures.reads.rises);
      goes_on = search rules;
      frame = search rules;
    }
