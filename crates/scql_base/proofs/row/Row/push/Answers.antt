use Rattle.std.proofs.Common.{◌≡◌, ℕ, List, [], ◌∷◌, ◌++◌, length, ◌∙◌, ap, arith, length-append}
use Rattle.scql_base.specs.Strings.{strings_of}
use Rattle.scql_base.specs.Row.{row_size}
use Rattle.scql_base.proofs.RowOctets.{strings_of-longer, row_size-spelled, longer_run, IsRow-longer, with_value-longer, with_value-wide, with_value-full}
use Rattle.scql_base.proofs.row.Row.push.Goals as goal
use Rattle.scql_base.proofs.row.Row.push.Goals.{then-value-gt-LONGEST_VALUE-via-then-value-gt-LONGEST_VALUE, then-value-gt-LONGEST_VALUE-via-else-value-gt-LONGEST_VALUE+then-len-value-ge-LARGEST}

pub returns-then-value-gt-LONGEST_VALUE-clause-err : goal.returns-then-value-gt-LONGEST_VALUE-clause-err
returns-then-value-gt-LONGEST_VALUE-clause-err c =
    let few : length c.args.self.now ≡ 15 → ⊥ = λ is. c.if-self-eq-MOST.false (c.self.invariant.2 ∙ (ap length c.self.view_is ∙ is)) in
    elim c.then-value-gt-LONGEST_VALUE.branch [
      | then-value-gt-LONGEST_VALUE-via-then-value-gt-LONGEST_VALUE w ↦ with_value-wide c.args.self.now c.args.value.now few w.if-value-gt-LONGEST_VALUE.true
      | then-value-gt-LONGEST_VALUE-via-else-value-gt-LONGEST_VALUE+then-len-value-ge-LARGEST w ↦
          let size : length c.self.inside.octets.items ≡ row_size c.args.self.now =
          ap length c.self.invariant.1 ∙ (row_size-spelled (strings_of c.self.inside.octets.items) ∙ ap row_size c.self.view_is) in
          with_value-full c.args.self.now c.args.value.now few (omega (arith, w.if-value-gt-LONGEST_VALUE.false)) (omega (arith, w.len.ensures.value, size, w.if-len-value-ge-LARGEST.true))
    ]

pub invariant_of-self : goal.invariant_of-self
invariant_of-self c =
    let values : List (List ℕ) = strings_of c.self.inside.octets.items in
    let few : length values ≡ 15 → ⊥ = λ is. c.if-self-eq-MOST.false (c.self.invariant.2 ∙ is) in
    let size : length c.self.inside.octets.items ≡ row_size values = ap length c.self.invariant.1 ∙ row_size-spelled values in
    let split : strings_of c.spell.new.octets.items ≡ values ++ c.args.value.now ∷ [] =
    strings_of-longer c.self.inside.octets.items c.spell.new.octets.items c.args.value.now values c.self.invariant.1 c.spell.ensures in
    rw split (
      IsRow-longer values c.args.value.now c.self.invariant.0 few (omega (arith, c.if-value-gt-LONGEST_VALUE.false)) (omega (arith, c.len.ensures.value, size, c.if-len-value-ge-LARGEST.false)),
      longer_run c.self.inside.octets.items c.spell.new.octets.items c.args.value.now values c.self.invariant.1 c.spell.ensures,
      omega (arith, c.self.invariant.2, length-append values (c.args.value.now ∷ [])),
    )

pub returns-clause-ok : goal.returns-clause-ok
returns-clause-ok c =
    let values : List (List ℕ) = strings_of c.self.inside.octets.items in
    let few : length values ≡ 15 → ⊥ = λ is. c.if-self-eq-MOST.false (c.self.invariant.2 ∙ is) in
    let size : length c.self.inside.octets.items ≡ row_size values = ap length c.self.invariant.1 ∙ row_size-spelled values in
    rw (← c.self.view_is, strings_of-longer c.self.inside.octets.items c.spell.new.octets.items c.args.value.now values c.self.invariant.1 c.spell.ensures)
    (with_value-longer values c.args.value.now few (omega (arith, c.if-value-gt-LONGEST_VALUE.false)) (omega (arith, c.len.ensures.value, size, c.if-len-value-ge-LARGEST.false)))
