-- The object that is seen, or the first refusal.
use Rattle.std.proofs.Common.{rules, ◌≡◌, false, Option, Some, None, refl, sym, ap, ◌∙◌}
use Rattle.std.specs.Prelude.{IfSome, is_some}
use Rattle.eeprom.specs.StoreOf.{Slots}
use Rattle.record_store.specs.declared.side.Side.TheVariants.{Working}
use Rattle.scql_base.specs.declared.records.Object.{Object}
use Rattle.catalog_codec.specs.Catalog.{object_kind}
use Rattle.record_table.specs.Listed.{at_slot, slots_of}
use Rattle.record_table.proofs.Asking.{same-held}
use Rattle.db_define.specs.Dropped.{IsToDrop}
use Rattle.db_define.proofs.ObjectDropped.{drops-foreign, drops-found, drops-none, drops-other, drops-viewed}
use Rattle.db_define.proofs.dropping.find_to_drop.Goals as goal

none : (place : Option Object) → is_some place ≡ false → place ≡ None
none None empty = refl
none (Some o) empty = absurd cc

pub returns-in_default-clause-refused : goal.returns-in_default-clause-refused
returns-in_default-clause-refused g c = λ db held.
    let empty = none c.find_seen_into.new.place (sym c.in_ok-slot.ensures.both ∙ ap is_some c.in_default.is) in
    rw c.refused.ensures (drops-none c.args.dropped db c.args.actor c.args.name (sym empty ∙ c.in_ok-slot.ensures.seen db held), refl, search rules)

pub returns-then-not-drops-clause-refused : goal.returns-then-not-drops-clause-refused
returns-then-not-drops-clause-refused g c = λ db held.
    let seen = sym c.in-Some-place.is ∙ c.in_ok-slot.ensures.seen db held in
    rw c.refused-then-not-drops.ensures (drops-other c.args.dropped db c.args.actor c.args.name c.in-Some-place.object seen (sym c.drops.ensures ∙ c.if-not-drops.true), refl, search rules)

pub returns-then-not-is_owned_by-clause-refused : goal.returns-then-not-is_owned_by-clause-refused
returns-then-not-is_owned_by-clause-refused g c = λ db held.
    let seen = sym c.in-Some-place.is ∙ c.in_ok-slot.ensures.seen db held in
    rw c.refused-then-not-is_owned_by.ensures (
      drops-foreign c.args.dropped db c.args.actor c.args.name c.in-Some-place.object seen (sym c.drops.ensures ∙ c.if-not-drops.false) (sym c.is_owned_by.ensures ∙ c.if-not-is_owned_by.true),
      refl,
      search rules,
    )

pub returns-then-branch-clause-refused : goal.returns-then-branch-clause-refused
returns-then-branch-clause-refused g c = λ db held.
    let seen = sym c.in-Some-place.is ∙ c.in_ok-slot.ensures.seen db held in
    let there = same-held c.in_ok-slot.ensures.goes_on c.in_ok-slot.ensures.frame.same held in
    rw c.refused-then-branch.ensures (
      drops-viewed c.args.dropped db c.args.actor c.args.name c.in-Some-place.object seen (sym c.drops.ensures ∙ c.if-not-drops.false) (sym c.is_owned_by.ensures ∙ c.if-not-is_owned_by.false)
          (sym (c.in_ok-is_viewed.ensures.answers db there) ∙ c.if-branch.true),
      refl,
      search rules,
    )

pub returns-clause-found : goal.returns-clause-found
returns-clause-found g c = go (slots_of c.args.store.now Working (g.B.Eeprom.chip c.args.bench.now)) (rw c.in-Some.is at c.in_ok-slot.ensures.at)
  where
    go : (o : Option Slots) → IfSome o (λ slots. c.find_seen_into.new.place ≡ at_slot object_kind c.in-Some.slot slots)
        → IfSome o (IsToDrop c.args.dropped c.args.store.now (g.B.Eeprom.chip c.args.bench.now) c.args.actor c.args.name (record { slot = c.in-Some.slot; stamp = c.in-Some-place.object.stamp }))
    go None at = tt
    go (Some slots) at = record {
      object = c.in-Some-place.object;
      at = sym at ∙ c.in-Some-place.is;
      stamp = refl;
      drops = λ db held.
          let seen = sym c.in-Some-place.is ∙ c.in_ok-slot.ensures.seen db held in
          let there = same-held c.in_ok-slot.ensures.goes_on c.in_ok-slot.ensures.frame.same held in
          drops-found c.args.dropped db c.args.actor c.args.name c.in-Some-place.object seen (sym c.drops.ensures ∙ c.if-not-drops.false) (sym c.is_owned_by.ensures ∙ c.if-not-is_owned_by.false)
          (sym (c.in_ok-is_viewed.ensures.answers db there) ∙ c.if-branch.false);
    }
