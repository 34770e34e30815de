use Rattle.std.proofs.Common.{Err, ℕ, List, None, ap, refl, rules, subst, sym}
use Rattle.scql_model.specs.Opens.{Opens}
use Rattle.card_c.specs.Calls.{IsOpened}
use Rattle.card_c.specs.HeldCard.{HeldCard}
use Rattle.card_c.proofs.Cuts.{boxed-so, opening-cuts, unboxed}
use Rattle.card_c.proofs.opening.opened_over.Goals as goal

pub returns-in-Err-NotACard : goal.returns-in-Err-NotACard
returns-in-Err-NotACard c = record {
  opened = search rules;
  not_a_card = λ is db opens. c.in-Err-NotACard.ensures.not_a_card (ap Err c.in-Err-NotACard.field-0-is) db (subst (λ (image : List ℕ). Opens image db) (sym c.in-Ok.ensures.image) opens);
  ends = search rules;
}

pub returns-in-Ok-open : goal.returns-in-Ok-open
returns-in-Ok-open c =
    let opened : HeldCard = record { card = c.in-Ok-open.card; bench = c.open.new.bench; terminal = None } in
    let opens = c.in-Ok-open.ensures.opens in
    record {
      opened = boxed-so c.boxed.result c.new-in-Ok-open.result opened (IsOpened c.args.image.items) c.new-in-Ok-open.ensures c.boxed.ensures.held (record {
        opens = (opens.0, subst (λ (image : List ℕ). Opens image opens.0) c.in-Ok.ensures.image opens.1);
        done = λ db opens. record {
          ready = c.in-Ok-open.ensures.ready;
          at = (c.in-Ok-open.ensures.opened db (_, refl, subst (λ (image : List ℕ). Opens image db) (sym c.in-Ok.ensures.image) opens)).starts;
        };
        cuts = λ db opens. opening-cuts c.args.image.items c.in-Ok.bench c.open.new.bench db c.in-Ok.ensures.image c.in-Ok.ensures.none c.in-Ok-open.ensures.recovers.store.keeps opens;
      });
      not_a_card = search rules;
      ends = unboxed c.boxed.result c.boxed.ensures.ends;
    }
