-- What is left to find after the next record.
use Rattle.std.proofs.Common.{◌≡◌, Some, None, true, false, refl, sym, ap, ◌∙◌, drop, ◌+◌, ◌<◌, length, arith}
use Rattle.std.specs.List.{cons_option}
use Rattle.scql_model.specs.Rules as rules
use Rattle.card.specs.KeptRecords.{as_user, users_in}
use Rattle.card.proofs.OwnerSearch.{is_owner_left, owner-second, owner-other, owner-taken, owner-passed}
use Rattle.card.proofs.Passing.{kind-next}
use Rattle.card.proofs.validity.has_owner_alone.Goals.{then-found-via-then-found, then-found-via-else-found+then-not-is_owner, in-Some+then-is_db_o+else-found+else-not-is_owner, in-Some+else-is_db_o, in_default}
use Rattle.card.proofs.validity.has_owner_alone.Goals as goal

pub returns-then-found : goal.returns-then-found
returns-then-found c =
    let records = c.args.records.now.items in
    let place = c.loop-index.index in
    let rest = users_in (drop (place + 1) records) in
    let user = c.in-Some.user in
    let next = kind-next as_user records place c.at.result (Some user) (omega (arith, c.loop-index-test.true, c.len-index-end.ensures)) c.at.ensures (sym c.in-Some.ensures) in
    let is : rules.is_db_o user ≡ true = sym c.is_db_o.ensures ∙ c.if-is_db_o.true in
    let none : is_owner_left c.loop-index.found (cons_option (Some user) rest) ≡ false =
    elim c.then-found.branch [
      | then-found-via-then-found w ↦ rw w.if-found.true (owner-second user rest is)
      | then-found-via-else-found+then-not-is_owner w ↦ owner-other c.loop-index.found user rest is (sym w.is_owner.ensures ∙ w.if-not-is_owner.true)
    ] in
    sym (c.loop-index.invariant.left ∙ ap (is_owner_left c.loop-index.found) next ∙ none)

pub loop-index-preserved : goal.loop-index-preserved
loop-index-preserved c =
    let records = c.args.records.now.items in
    let place = c.loop-index.index in
    let rest = users_in (drop (place + 1) records) in
    let lt : place < length records = omega (arith, c.loop-index-test.true, c.len-index-end.ensures) in
    let found = c.loop-index.found in
    elim c.match-user.branch [
      | in-Some+then-is_db_o+else-found+else-not-is_owner w ↦ (let user = w.in-Some.user in
          let next = kind-next as_user records place c.at.result (Some user) lt c.at.ensures (sym w.in-Some.ensures) in record {
            left = c.loop-index.invariant.left ∙ ap (is_owner_left found) next
                ∙ rw (w.found-is, w.if-found.false) (owner-taken user rest (sym w.is_db_o.ensures ∙ w.if-is_db_o.true) (sym w.is_owner.ensures ∙ w.if-not-is_owner.false));
          })
      | in-Some+else-is_db_o w ↦ (let user = w.in-Some.user in
          let next = kind-next as_user records place c.at.result (Some user) lt c.at.ensures (sym w.in-Some.ensures) in record {
            left = c.loop-index.invariant.left ∙ ap (is_owner_left found) next ∙ rw w.found-is (owner-passed found user rest (sym w.is_db_o.ensures ∙ w.if-is_db_o.false));
          })
      | in_default w ↦ (let next = kind-next as_user records place c.at.result None lt c.at.ensures (sym w.in_default.ensures) in record {
        left = c.loop-index.invariant.left ∙ ap (is_owner_left found) next ∙ rw w.found-is refl;
      })
    ]
