-- The numbers so far are those of the records so far.
use Rattle.std.proofs.Common.{◌≡◌, ◌++◌, ◌∷◌, [], true, is_ok, refl, sym, ap, ◌∙◌, ◌<◌, ◌≤◌, length, arith}
use Rattle.card.specs.Apart as apart
use Rattle.card.proofs.Labels.{never-shared}
use Rattle.card.proofs.Passing.{all-next, taken-one, taken-none, one-more, all-taken, all-made}
use Rattle.card.proofs.apart.Label.is_never_shared.Goals.{in-Some+else-prove, in_default}
use Rattle.card.proofs.apart.Label.is_never_shared.Goals as goal

pub returns-clause-never : goal.returns-clause-never
returns-clause-never c =
    let records = c.args.records.now.items in
    let place = c.loop-index.index in
    let behind : length records ≤ place = omega (arith, c.loop-index-test.false, c.len-index-end.ensures) in
    c.are_different.ensures
    ∙ ap apart.are_different_numbers (c.deref_mut.ensures.value ∙ all-made (apart.number_by c.args.self) records place _ c.loop-index.numbers.items behind c.loop-index.invariant.taken)
    ∙ never-shared c.args.self records (all-taken (apart.is_numbered c.args.self) records place behind c.loop-index.invariant.numbered)

pub loop-index-preserved : goal.loop-index-preserved
loop-index-preserved c =
    let records = c.args.records.now.items in
    let place = c.loop-index.index in
    let here = c.at.result in
    let lt : place < length records = omega (arith, c.loop-index-test.true, c.len-index-end.ensures) in
    let by = apart.number_by c.args.self in
    let numbered = all-next (apart.is_numbered c.args.self) records place here lt c.at.ensures c.loop-index.invariant.numbered c.number.ensures.numbered in
    elim c.match-number.branch [
      | in-Some+else-prove w ↦ (let pushed : is_ok w.push.result ≡ true = sym w.is_ok-pushed.ensures.value ∙ w.if-prove.false in
          let items : c.match-number.numbers.items ≡ c.loop-index.numbers.items ++ w.in-Some.number ∷ [] = rw w.numbers-is (rw pushed at w.push.ensures.items) in record {
            taken = taken-one by _ c.loop-index.numbers.items c.match-number.numbers.items records place here w.in-Some.number lt c.at.ensures (sym w.in-Some.ensures.number) items c.loop-index.invariant.taken;
            few = one-more c.loop-index.numbers.items c.match-number.numbers.items w.in-Some.number place items c.loop-index.invariant.few;
            room = rw w.numbers-is (omega (arith, c.loop-index.invariant.room, w.push.ensures.capacity));
            numbered = numbered;
          })
      | in_default w ↦ record {
        taken = taken-none by _ c.loop-index.numbers.items c.match-number.numbers.items records place here lt c.at.ensures (sym w.in_default.ensures.number) (rw w.numbers-is refl) c.loop-index.invariant.taken;
        few = rw w.numbers-is (omega (arith, c.loop-index.invariant.few));
        room = rw w.numbers-is c.loop-index.invariant.room;
        numbered = numbered;
      }
    ]
