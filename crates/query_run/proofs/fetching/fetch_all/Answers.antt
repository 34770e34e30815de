use Rattle.std.proofs.Common.{Vec, Global, ◌≡◌, ◌+◌, ◌∷◌, List, [], Err, arith, drop, length, sym, ap, subst, rules, length-append}
use Rattle.std.specs.List.{AllByRecursion}
use Rattle.row_join.specs.declared.fetched.Fetched.{Fetched}
use Rattle.query.specs.declared.query.AskedObject.{AskedObject}
use Rattle.query_run.specs.declared.unfetched.Unfetched.TheVariants.{NoMemory}
use Rattle.query_run.specs.Fetching.{CanBeAsked, EndsFetching, FetchesSo}
use Rattle.query_run.specs.Progress.{ShowsAllFetched}
use Rattle.query_run.specs.QueryText.{tables_shown}
use Rattle.scql_model.specs.Shown.{shown_on}
use Rattle.card_asking.proofs.Calls.{answers-both, rest-both}
use Rattle.query_run.proofs.Fetched.{ends-then, reads-moments}
use Rattle.query_run.proofs.Tables.{GivenSoFar, ended-shown, fetched-unadded, given-ended, given-more, left-first, table-shown}
use Rattle.query_run.proofs.fetching.fetch_all.Goals as goal

pub fetch_object-requires : goal.fetch_object-requires
fetch_object-requires g c = record {
  live = c.loop-asked.invariant.answers.live;
  askable = (subst (AllByRecursion CanBeAsked) (left-first c.args.objects.now c.loop-asked.asked-index c.asked-item.result c.loop-asked-test.true c.asked-item.is) c.loop-asked.invariant.sendable).0;
}

pub returns-in_err-fetched-clause-fetches : goal.returns-in_err-fetched-clause-fetches
returns-in_err-fetched-clause-fetches g c = record {
  over = λ m at.
      let same : c.from_residual.result ≡ Err c.in_err-fetched.field-0.0 = search rules in
      let so_far = subst (λ (left : List AskedObject). GivenSoFar g.L.CardLink.is_at m c.args.objects.now left c.loop-asked.tables.items c.loop-asked.link)
      (left-first c.args.objects.now c.loop-asked.asked-index c.asked-item.result c.loop-asked-test.true c.asked-item.is) (c.loop-asked.invariant.given m at) in
      record {
        fetches = subst (λ r. FetchesSo g.L.CardLink.is_at m (λ (tables : Vec Fetched Global). tables.items) (tables_shown (shown_on m 0) c.args.objects.now) r c.fetch_object.new.link) (sym same)
            (given-ended g.L.CardLink.is_at m c.args.objects.now (drop (c.loop-asked.asked-index + 1) c.args.objects.now) c.asked-item.result c.loop-asked.tables.items c.loop-asked.link c.fetch_object.new.link so_far (λ (tables : Vec Fetched Global). tables.items) c.in_err-fetched.field-0.0
            (c.in_err-fetched.ensures.over so_far.reads.machine so_far.reads.at).fetches);
        moments = reads-moments g.L.CardLink.is_at g.L.CardLink.chip g.L.CardLink.mark m c.args.link.now c.loop-asked.link c.fetch_object.new.link (c.loop-asked.invariant.given m at).reads c.loop-asked.invariant.rest.marked (c.loop-asked.invariant.moments m at)
            (λ m at. (c.fetch_object.ensures.over m at).moments);
      };
  leaves =
      let same : c.from_residual.result ≡ Err c.in_err-fetched.field-0.0 = search rules in
      record {
        ends = subst (λ r. EndsFetching g.L.CardLink.is_live g.L.CardLink.faults r c.args.link.now c.fetch_object.new.link) (sym same)
            (ends-then Fetched (Vec Fetched Global) g.L.CardLink.is_live g.L.CardLink.faults c.args.link.now c.loop-asked.link c.fetch_object.new.link c.in_err-fetched.field-0.0 c.loop-asked.invariant.answers c.in_err-fetched.ensures.leaves.ends);
        rest = rest-both g.L.CardLink.mark g.L.CardLink.keeps g.L.CardLink.goes_on c.args.link.now c.loop-asked.link c.fetch_object.new.link (g.met.L.CardLink.keeps_then c.args.link.now c.loop-asked.link c.fetch_object.new.link)
            (g.met.L.CardLink.goes_on_then c.args.link.now c.loop-asked.link c.fetch_object.new.link) c.loop-asked.invariant.rest c.fetch_object.ensures.leaves.rest;
      };
  shows =
      let same : c.from_residual.result ≡ Err c.in_err-fetched.field-0.0 = search rules in
      subst (λ r. ShowsAllFetched g.P.Person.lost g.P.Person.shown (λ (tables : Vec Fetched Global). tables.items) r c.args.person.now c.fetch_object.new.person) (sym same)
      (ended-shown g.P.Person.lost g.P.Person.shown (λ (tables : Vec Fetched Global). tables.items) c.in_err-fetched.field-0.0 c.loop-asked.tables.items c.args.person.now c.loop-asked.person c.fetch_object.new.person c.loop-asked.invariant.shown c.in_err-fetched.ensures.shows);
}

pub returns-in_err-add_table-clause-fetches : goal.returns-in_err-add_table-clause-fetches
returns-in_err-add_table-clause-fetches g c = record {
  over = λ m at.
      let same : c.from_residual-in_err-add_table.result ≡ Err NoMemory = search rules in
      record {
        fetches = subst (λ r. FetchesSo g.L.CardLink.is_at m (λ (tables : Vec Fetched Global). tables.items) (tables_shown (shown_on m 0) c.args.objects.now) r c.fetch_object.new.link) (sym same) tt;
        moments = reads-moments g.L.CardLink.is_at g.L.CardLink.chip g.L.CardLink.mark m c.args.link.now c.loop-asked.link c.fetch_object.new.link (c.loop-asked.invariant.given m at).reads c.loop-asked.invariant.rest.marked (c.loop-asked.invariant.moments m at)
            (λ m at. (c.fetch_object.ensures.over m at).moments);
      };
  leaves =
      let same : c.from_residual-in_err-add_table.result ≡ Err NoMemory = search rules in
      record {
        ends = subst (λ r. EndsFetching g.L.CardLink.is_live g.L.CardLink.faults r c.args.link.now c.fetch_object.new.link) (sym same)
            (answers-both g.L.CardLink.is_live g.L.CardLink.faults c.args.link.now c.loop-asked.link c.fetch_object.new.link c.loop-asked.invariant.answers c.in_ok-fetched.ensures.leaves.ends);
        rest = rest-both g.L.CardLink.mark g.L.CardLink.keeps g.L.CardLink.goes_on c.args.link.now c.loop-asked.link c.fetch_object.new.link (g.met.L.CardLink.keeps_then c.args.link.now c.loop-asked.link c.fetch_object.new.link)
            (g.met.L.CardLink.goes_on_then c.args.link.now c.loop-asked.link c.fetch_object.new.link) c.loop-asked.invariant.rest c.fetch_object.ensures.leaves.rest;
      };
  shows =
      let same : c.from_residual-in_err-add_table.result ≡ Err NoMemory = search rules in
      subst (λ r. ShowsAllFetched g.P.Person.lost g.P.Person.shown (λ (tables : Vec Fetched Global). tables.items) r c.args.person.now c.fetch_object.new.person) (sym same)
      (fetched-unadded g.P.Person.lost g.P.Person.shown (λ (tables : Vec Fetched Global). tables.items) c.loop-asked.tables.items c.in_ok-fetched.fetched c.args.person.now c.loop-asked.person c.fetch_object.new.person c.loop-asked.invariant.shown c.in_ok-fetched.ensures.shows);
}

pub loop-asked-preserved : goal.loop-asked-preserved
loop-asked-preserved g c = record {
  given = λ m at.
      let so_far = subst (λ (left : List AskedObject). GivenSoFar g.L.CardLink.is_at m c.args.objects.now left c.loop-asked.tables.items c.loop-asked.link)
      (left-first c.args.objects.now c.loop-asked.asked-index c.asked-item.result c.loop-asked-test.true c.asked-item.is) (c.loop-asked.invariant.given m at) in
      given-more g.L.CardLink.is_at m c.args.objects.now (drop (c.loop-asked.asked-index + 1) c.args.objects.now) c.asked-item.result c.loop-asked.tables.items c.loop-asked.link c.fetch_object.new.link so_far c.in_ok-fetched.fetched
      c.add_table.new.tables.items c.in_ok-add_table.ensures (c.in_ok-fetched.ensures.over so_far.reads.machine so_far.reads.at).fetches;
  count = omega (arith, ap length c.in_ok-add_table.ensures, length-append c.loop-asked.tables.items (c.in_ok-fetched.fetched ∷ []), c.loop-asked.invariant.count);
  moments = λ m at.
      reads-moments g.L.CardLink.is_at g.L.CardLink.chip g.L.CardLink.mark m c.args.link.now c.loop-asked.link c.fetch_object.new.link (c.loop-asked.invariant.given m at).reads c.loop-asked.invariant.rest.marked (c.loop-asked.invariant.moments m at)
      (λ m at. (c.fetch_object.ensures.over m at).moments);
  answers = answers-both g.L.CardLink.is_live g.L.CardLink.faults c.args.link.now c.loop-asked.link c.fetch_object.new.link c.loop-asked.invariant.answers c.in_ok-fetched.ensures.leaves.ends;
  shown = table-shown g.P.Person.lost g.P.Person.shown c.loop-asked.tables.items c.add_table.new.tables.items c.in_ok-fetched.fetched c.args.person.now c.loop-asked.person c.fetch_object.new.person c.in_ok-add_table.ensures
      c.loop-asked.invariant.shown c.in_ok-fetched.ensures.shows;
  sendable = (subst (AllByRecursion CanBeAsked) (left-first c.args.objects.now c.loop-asked.asked-index c.asked-item.result c.loop-asked-test.true c.asked-item.is) c.loop-asked.invariant.sendable).1;
  rest = rest-both g.L.CardLink.mark g.L.CardLink.keeps g.L.CardLink.goes_on c.args.link.now c.loop-asked.link c.fetch_object.new.link (g.met.L.CardLink.keeps_then c.args.link.now c.loop-asked.link c.fetch_object.new.link)
      (g.met.L.CardLink.goes_on_then c.args.link.now c.loop-asked.link c.fetch_object.new.link) c.loop-asked.invariant.rest c.fetch_object.ensures.leaves.rest;
}
