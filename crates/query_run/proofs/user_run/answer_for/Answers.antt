-- The user was presented, and from there on the lines were answered.
use Rattle.std.proofs.Common.{◌≡◌, ℕ, List, Option, refl, sym, ◌∙◌, subst, inl, inr}
use Rattle.eeprom.specs.Chip.{Becomes}
use Rattle.scql_model.specs.Database.{Database}
use Rattle.scql_model.specs.Machine.{Machine}
use Rattle.card_asking.specs.Presenting.{presented}
use Rattle.guide.proofs.Told.{told-none}
use Rattle.query_run.specs.Fetching.{ReadsAs}
use Rattle.query_run.specs.Running.{PrintsQueries}
use Rattle.query_run.specs.RespondingLaws.{counts-none}
use Rattle.query_run.specs.Statuses.{program_status}
use Rattle.query_run.specs.UserRuns.{StaysOpen}
use Rattle.query_run.proofs.UserRan.{ends-from, holds-open, lines-open, opens-then, refused-few}
use Rattle.query_run.proofs.user_run.answer_for.Goals.{After-answer_queries as Answered}
use Rattle.query_run.proofs.user_run.answer_for.Goals as goal

-- nothing was given as the user was presented
silent : (g : _) (c : Answered g) → (g.D.CardLink.chip c.present.new.link).still.given ≡ (g.D.CardLink.chip c.args.desk).still.given
silent g c = g.met.D.ToldDesk.output c.present.new.link ∙ ((g.met.D.Desk.kept c.args.desk c.present.new.link c.present.ensures.rest.kept).0 ∙ sym (g.met.D.ToldDesk.output c.args.desk))

-- queries read what is shown behind that
reads : (g : _) (c : Answered g) (m : Machine) → g.D.CardLink.is_at c.args.desk m → ReadsAs g.D.CardLink.is_at (presented m c.args.user.now).machine c.present.new.link
reads g c m at = let p = c.in-Ok.ensures.presents m at in record { machine = (presented m c.args.user.now).machine; at = p.1.at; committed = refl; objects = refl }

pub returns-in-Ok-clause-runs : goal.returns-in-Ok-clause-runs
returns-in-Ok-clause-runs g c = λ m at.
    let p = c.in-Ok.ensures.presents m at in
    let ran = c.answer_queries.ensures.runs (presented m c.args.user.now).machine (reads g c m at) in
    record {
      runs = inr (inr (record { done = p.0; first = c.present.new.link; silent = silent g c; quiet = c.in-Ok.ensures.ends.same; runs = ran.runs }));
      prints = λ whole. inl (
        p.0,
        subst (λ (before : Option (List ℕ)). Becomes (λ input left. PrintsQueries (presented m c.args.user.now).machine input (program_status c.answer_queries.result.0) before (g.D.CardLink.chip c.answer_queries.result.1).still.given)
            (g.S.Source.left c.args.source.now) (g.S.Source.left c.answer_queries.new.source)) (silent g c) (ran.prints whole),
      );
      stays = λ given left.
          opens-then m.committed (g.D.CardLink.chip c.args.desk) (g.D.CardLink.chip c.present.new.link) (g.D.CardLink.chip c.answer_queries.result.1)
          (holds-open g.D.CardLink.chip (g.D.CardLink.mark c.args.desk) m.committed c.args.desk c.present.new.link (c.present.ensures.moments m at))
          (subst (λ (db : Database). StaysOpen db (g.D.CardLink.chip c.present.new.link) (g.D.CardLink.chip c.answer_queries.result.1)) p.1.like.committed
          (lines-open g.D.CardLink.chip g.D.CardLink.faults (presented m c.args.user.now).machine (program_status c.answer_queries.result.0) (g.S.Source.left c.args.source.now) (g.S.Source.left c.answer_queries.new.source) c.present.new.link
          c.answer_queries.result.1 given left ran.runs));
    }

pub returns-in-Ok-clause-leaves : goal.returns-in-Ok-clause-leaves
returns-in-Ok-clause-leaves g c =
    let leaves = c.answer_queries.ensures.leaves in
    record {
      too_long = leaves.too_long;
      ends = ends-from (program_status c.answer_queries.result.0) _ _ _ _ _ _ c.in-Ok.ensures.ends.same (g.met.D.Desk.kept c.args.desk c.present.new.link c.present.ensures.rest.kept).1 leaves.ends;
      shows = leaves.shows;
      told = leaves.told;
    }

pub returns-in-Err-Refused-clause-leaves : goal.returns-in-Err-Refused-clause-leaves
returns-in-Err-Refused-clause-leaves g c =
    let answers = rw c.in-Err-Refused.field-0-is at c.in-Err-Refused.ensures.ends in
    record {
      too_long = λ is. absurd (refused-few _ c.refuse-status.result _ _ c.refuse-status.ensures.tells is);
      ends = ends-from (program_status c.refuse-status.result) _ _ _ _ _ _ answers.same (g.met.D.Desk.kept c.args.desk c.present.new.link c.present.ensures.rest.kept).1 (c.refuse-status.ensures.ends (g.S.Source.source_faults c.args.source.now));
      shows = counts-none g.P.Person.lost g.P.Person.shown c.args.person;
      told = c.tell.ensures;
    }

pub returns-in-Err-Mute-clause-leaves : goal.returns-in-Err-Mute-clause-leaves
returns-in-Err-Mute-clause-leaves g c =
    let mutes = rw c.in-Err-Mute.field-0-is at c.in-Err-Mute.ensures.ends in
    record {
      too_long = λ is. absurd cc;
      ends = (mutes.rose, refl, (g.met.D.Desk.kept c.args.desk c.present.new.link c.present.ensures.rest.kept).1);
      shows = counts-none g.P.Person.lost g.P.Person.shown c.args.person;
      told = told-none g.N.Person.lost g.N.Person.shown c.args.notices;
    }
