-- What was found stands for the table under the object, and else that is found.
use Rattle.std.proofs.Common.{◌≡◌, true, Result, Ok, Err, is_ok, refl, sym, ◌∙◌}
use Rattle.std.specs.Prelude.{IfErr, IfOk}
use Rattle.std.proofs.lemmas.Bool.{false≢true}
use Rattle.views.proofs.Bindings.{AreKnown-unknown}
use Rattle.db_write.proofs.FoundThrough.{found-binds, found-rests, has-some, resolved-rests}
use Rattle.db_write.proofs.RowReached.{conditions-known}
use Rattle.db_write.proofs.reaching.find_table.Goals as goal

without-error : {T E : Type 0} (P : E → Type 0) (r : Result T E) → IfErr r P → ((e : E) → P e → ⊥) → is_ok r ≡ true
without-error P (Ok y) said none = refl
without-error P (Err e) said none = absurd (none e said)

where-ok : {T E : Type 0} {A : Type 0} (r : Result T E) → IfOk r (λ _. A) → is_ok r ≡ true → A
where-ok (Ok y) said ok = said
where-ok (Err e) said ok = absurd cc

pub returns-then-is_found-clause-found : goal.returns-then-is_found-clause-found
returns-then-is_found-clause-found g c = λ db held chosen. record {
  rests = found-rests db chosen.actor c.args.cursor.now c.args.choice.now chosen.has (rw c.if-is_found.true at chosen.right);
  binds = λ bound. found-binds db chosen.actor c.args.cursor.now c.args.choice.now chosen.has (rw c.if-is_found.true at chosen.right);
  bound = λ of. refl;
}

pub returns-in_default-clause-found : goal.returns-in_default-clause-found
returns-in_default-clause-found g c = λ db held chosen. absurd (has-some db c.args.cursor.now c.args.choice.now.object chosen.has c.in_default.is)

pub returns-clause-found : goal.returns-clause-found
returns-clause-found g c = λ db held chosen.
    let cursor = c.args.cursor.now in
    let answer = c.resolve.new.resolved in
    let rests = resolved-rests db cursor c.args.choice.now.object c.in-Some.object answer chosen.has c.in-Some.is (c.in_ok-resolve.ensures.rests db held) in
    record {
      rests = rests;
      binds = λ bound. where-ok c.bind_into.result c.bind_into.ensures.bound (sym c.is_ok.ensures.value ∙ bound);
      bound = λ of.
          let known = conditions-known db cursor answer.table answer.all answer.filters.items held.valid of rests in
          c.is_ok.ensures.value ∙ without-error _ c.bind_into.result c.bind_into.ensures.unknown (λ name unknown. false≢true (sym (AreKnown-unknown answer.all cursor.conditions name unknown) ∙ known));
    }
