-- Conditions that can't be bound aren't on these columns.
use Rattle.std.proofs.Common.{◌≡◌, true, Result, Ok, Err, is_ok, refl, sym, ◌∙◌}
use Rattle.std.specs.Prelude.{IfErr}
use Rattle.std.proofs.lemmas.Bool.{and_parts, false≢true}
use Rattle.scql_model.specs.Database.{are_among}
use Rattle.scql_model.specs.Resolving.{AreKnown}
use Rattle.views.proofs.Bindings.{AreKnown-unknown}
use Rattle.db_read.proofs.choosing.place_all.Goals as goal

without-error : {T E : Type 0} (P : E → Type 0) (r : Result T E) → IfErr r P → ((e : E) → P e → ⊥) → is_ok r ≡ true
without-error P (Ok y) said none = refl
without-error P (Err e) said none = absurd (none e said)

pub returns-clause-there : goal.returns-clause-there
returns-clause-there c = λ named.
    let all = c.args.all.now in
    let known = (and_parts (are_among c.args.cursor.now.columns all) (AreKnown all c.args.cursor.now.conditions) named).1 in
    c.is_ok.ensures.value ∙ without-error _ c.bind_into.result c.bind_into.ensures.unknown (λ name unknown. false≢true (sym (AreKnown-unknown all c.args.cursor.now.conditions name unknown) ∙ known))
