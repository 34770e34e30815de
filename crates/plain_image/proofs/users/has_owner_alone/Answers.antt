-- What is left to find after the next user.
use Rattle.std.proofs.Common.{◌≡◌, ◌∷◌, ◌∙◌, ◌+◌, List, true, false, drop, sym, ap, arith}
use Rattle.std.proofs.lemmas.List.{drop_more}
use Rattle.scql_base.specs.declared.records.User.{User}
use Rattle.scql_model.specs.Rules as model
use Rattle.plain_image.proofs.OwnerFound.{is_owner_left, owner-second, owner-other, owner-taken, owner-passed}
use Rattle.plain_image.proofs.users.has_owner_alone.Goals.{then-found-via-then-found, then-found-via-else-found+then-not-is_owner, then-is_db_o+else-found+else-not-is_owner, else-is_db_o}
use Rattle.plain_image.proofs.users.has_owner_alone.Goals as goal

pub returns-then-found : goal.returns-then-found
returns-then-found c =
    let users : List User = c.args.users.now in
    let index = c.loop-user.user-index in
    let user : User = c.user-item.result in
    let rest : List User = drop (index + 1) users in
    let here : drop index users ≡ user ∷ rest = drop_more users index user (omega (arith, c.loop-user-test.true, c.loop-user.auto.user-index-end)) ∙ ap (λ (u : User). u ∷ rest) (sym c.user-item.is) in
    let is : model.is_db_o user ≡ true = sym c.is_db_o.ensures ∙ c.if-is_db_o.true in
    let none : is_owner_left c.loop-user.found (user ∷ rest) ≡ false =
    elim c.then-found.branch [
      | then-found-via-then-found w ↦ rw w.if-found.true (owner-second user rest is)
      | then-found-via-else-found+then-not-is_owner w ↦ owner-other c.loop-user.found user rest is (sym w.is_owner.ensures ∙ w.if-not-is_owner.true)
    ] in
    sym (c.loop-user.invariant ∙ ap (is_owner_left c.loop-user.found) here ∙ none)

pub loop-user-preserved : goal.loop-user-preserved
loop-user-preserved c =
    let users : List User = c.args.users.now in
    let index = c.loop-user.user-index in
    let user : User = c.user-item.result in
    let rest : List User = drop (index + 1) users in
    let here : drop index users ≡ user ∷ rest = drop_more users index user (omega (arith, c.loop-user-test.true, c.loop-user.auto.user-index-end)) ∙ ap (λ (u : User). u ∷ rest) (sym c.user-item.is) in
    let left = c.loop-user.invariant ∙ ap (is_owner_left c.loop-user.found) here in
    elim c.if-is_db_o.branch [
      | then-is_db_o+else-found+else-not-is_owner w ↦ left ∙ rw (w.found-is, w.if-found.false) (owner-taken user rest (sym c.is_db_o.ensures ∙ w.if-is_db_o.true) (sym w.is_owner.ensures ∙ w.if-not-is_owner.false))
      | else-is_db_o w ↦ left ∙ rw w.found-is (owner-passed c.loop-user.found user rest (sym c.is_db_o.ensures ∙ w.if-is_db_o.false))
    ]
