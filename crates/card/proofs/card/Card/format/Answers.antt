-- The two records of a new card are the counter and OWNER.
use Rattle.std.proofs.Common.{rules, ◌≡◌, ap, ◌∙◌}
use Rattle.scql_base.specs.declared.records.User.{User}
use Rattle.scql_model.specs.Records.{counter_record, user_record}
use Rattle.scql_model.specs.Database.{owner}
use Rattle.card.proofs.Starting.{opens_fresh, made_moments}
use Rattle.card.proofs.card.Card.format.Goals.{After-format}
use Rattle.card.proofs.card.Card.format.Goals as goal

counter : (g : _) (c : After-format g) → c.deref.result.now ≡ counter_record.spell 2
counter g c = c.deref.ensures.0 ∙ c.encode.ensures

user : (g : _) (c : After-format g) → c.deref-2.result.now ≡ user_record.spell owner
user g c = c.deref-2.ensures.0 ∙ (c.encode-2.ensures ∙ ap (λ (u : User). user_record.spell u) c.owner.ensures)

pub returns : goal.returns
returns g c = record {
  image = (let made = (goal.at.returns g c).After-format in
      rw (counter g made, user g made) at c.format.ensures.image);
  fresh = (let made = (goal.at.returns g c).After-format in
      opens_fresh c.format.result (g.B.Eeprom.chip c.format.new.bench).image c.args.n c.deref.result.now c.deref-2.result.now c.requires.few c.requires.many (counter g made) (user g made) c.format.ensures.formatted);
  still = search rules;
  behind = search rules;
  moments = (let made = (goal.at.returns g c).After-format in
      made_moments c.args.n c.deref.result.now c.deref-2.result.now (g.B.Eeprom.chip c.args.bench.now) (g.B.Eeprom.chip c.format.new.bench) c.requires.few c.requires.many (counter g made) (user g made) c.format.ensures.moments);
  too_small = search rules;
  unchanged = search rules;
  fault = search rules;
  quiet = search rules;
  never_falls = search rules;
}
