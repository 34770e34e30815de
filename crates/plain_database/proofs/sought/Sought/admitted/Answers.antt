-- Those that may be the one stand together, since stamps rise.
use Rattle.std.proofs.Common.{◌≡◌, ◌+◌, ◌-◌, true, leb, List, [], ◌∷◌, filter, option_to_list, refl, sym, ap, rules, ◌∙◌, arith}
use Rattle.std.proofs.lemmas.List.Sorted.{IsPartitionPoint-from_clause, IsPartitionedBy-leb}
use Rattle.std.proofs.lemmas.List.{take_rest}
use Rattle.eeprom.specs.Slots.{has}
use Rattle.plain_database.proofs.RisingStamps.{drop-behind, filter-has, find-no_place, has-there, keys-rise}
use Rattle.plain_database.proofs.sought.Sought.admitted.Goals as goal

-- where the first is sought, each may be it
all-pass : {X : Type 0} (xs : List X) → xs ≡ filter (λ x. true) xs
all-pass [] = refl
all-pass (x ∷ xs) = ap (λ rest. x ∷ rest) (all-pass xs)

pub returns-in-First : goal.returns-in-First
returns-in-First g c = rw c.in-First.is (all-pass c.args.rising.now.records.now)

pub returns-in-Behind : goal.returns-in-Behind
returns-in-Behind g c =
    let key = g.R.Stamped.stamp_of in
    let parted = IsPartitionedBy-leb key _ c.in-Behind.stamp (keys-rise key c.args.rising.now.records.now c.args.rising.now.rises) in
    let point = IsPartitionPoint-from_clause (λ y. leb (key y) c.in-Behind.stamp) _ _ c.partition_point-from.ensures.partitioned parted (λ a r q k. search rules) in
    rw c.in-Behind.is
    (take_rest c.args.rising.now.records.now c.partition_point-from.result ∙ drop-behind key c.in-Behind.stamp c.args.rising.now.records.now c.partition_point-from.result c.partition_point-from.ensures.bound point)

pub returns-in-Some : goal.returns-in-Some
returns-in-Some g c =
    let one : c.in-Some.place + 1 - c.in-Some.place ≡ 1 = omega arith in
    rw (c.in-At.is, one) (has-there g.R.Stamped.stamp_of c.in-At.stamp c.args.rising.now.records.now c.in-Some.place c.args.rising.now.rises c.in-Some.ensures.place c.in-Some.ensures.within)

pub returns-in-None : goal.returns-in-None
returns-in-None g c =
    let key = g.R.Stamped.stamp_of in
    rw c.in-At.is (sym (filter-has key c.in-At.stamp c.args.rising.now.records.now c.args.rising.now.rises ∙ ap option_to_list (find-no_place (has key c.in-At.stamp) c.args.rising.now.records.now c.in-None.ensures.place)))
