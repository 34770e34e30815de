use Rattle.std.proofs.Common.{◌≡◌, ◌<◌, ℕ, List, [], ◌∷◌, ◌++◌, length, ap, arith, length-append, subst, true}
use Rattle.scql_base.specs.Changes.{change_octets, pairs_of}
use Rattle.scql_base.specs.Name.{is_name}
use Rattle.scql_base.specs.Strings.{spelled, strings_of}
use Rattle.scql_base.proofs.PackedRuns.{AreChanges-longer, change_octets-size, changes-longer, longer_changes}
use Rattle.scql_base.proofs.packed_changes.PackedChanges.push.Goals as goal

pub invariant_of-self : goal.invariant_of-self
invariant_of-self c =
    let changes : List (List ℕ × List ℕ) = pairs_of (strings_of c.self.inside.octets.items) in
    let named : c.spell.new.octets.items ≡ c.self.inside.octets.items ++ spelled c.args.column.now = rw (← c.octets-name.ensures.octets) c.spell.ensures in
    let longer : c.spell-2.new.octets.items ≡ change_octets (changes ++ (c.args.column.now, c.args.value.now) ∷ []) =
    longer_changes c.self.inside.octets.items c.spell.new.octets.items c.spell-2.new.octets.items c.args.column.now c.args.value.now changes c.self.invariant.1 named c.spell-2.ensures in
    let few : length changes < 15 = omega (arith, c.self.invariant.0.list.count, c.self.invariant.2, c.if-self-eq-MOST.false) in
    rw (changes-longer c.spell-2.new.octets.items (changes ++ (c.args.column.now, c.args.value.now) ∷ []) longer) (
      record {
        list = AreChanges-longer changes c.args.column.now c.args.value.now c.self.invariant.0.list few (subst (λ (name : List ℕ). is_name name ≡ true) c.octets-name.ensures.octets c.octets-name.ensures.name) (omega (arith, c.if-value-gt-LONGEST_VALUE.false));
        size = omega (arith, change_octets-size changes c.args.column.now c.args.value.now, ap length c.self.invariant.1, c.len.ensures.value, ap length c.octets-name.ensures.octets, c.if-size-gt-LONGEST_IN_PARTS.false);
      },
      longer,
      omega (arith, c.self.invariant.2, length-append changes ((c.args.column.now, c.args.value.now) ∷ [])),
    )

pub returns-clause-ok : goal.returns-clause-ok
returns-clause-ok c =
    let changes : List (List ℕ × List ℕ) = pairs_of (strings_of c.self.inside.octets.items) in
    let named : c.spell.new.octets.items ≡ c.self.inside.octets.items ++ spelled c.args.column.now = rw (← c.octets-name.ensures.octets) c.spell.ensures in
    let longer : c.spell-2.new.octets.items ≡ change_octets (changes ++ (c.args.column.now, c.args.value.now) ∷ []) =
    longer_changes c.self.inside.octets.items c.spell.new.octets.items c.spell-2.new.octets.items c.args.column.now c.args.value.now changes c.self.invariant.1 named c.spell-2.ensures in
    rw (← c.self.view_is) (changes-longer c.spell-2.new.octets.items (changes ++ (c.args.column.now, c.args.value.now) ∷ []) longer)
