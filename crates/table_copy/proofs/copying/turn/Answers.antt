use Rattle.std.proofs.Common.{sym, ◌∙◌, subst, rules}
use Rattle.planner.specs.declared.closing.Closing.TheVariants.{Rows}
use Rattle.card_asking.specs.Giving.{behind_step}
use Rattle.table_copy.specs.Filling.{Together, TurnsSo, has_row, with_row}
use Rattle.table_copy.proofs.Ending.{unless-source_mute}
use Rattle.table_copy.proofs.Opening.{rows-go_on}
use Rattle.table_copy.proofs.Turning.{fetches-on, has-row, row-counted, turns-refused}
use Rattle.table_copy.proofs.copying.turn.Goals as goal

pub returns-in-Ok : goal.returns-in-Ok
returns-in-Ok g c = record {
  turns = λ s d count passed total together.
      let S = g.S.CardLink.is_at in
      let D = g.D.CardLink.is_at in
      let all = together.gives in
      let put = c.in-Ok.ensures.puts d together.db together.left together.copies (has-row S s (Rows count) all.last together.left c.args.fetching.now.plan c.args.fetching.now.step c.args.source.now all.gives) in
      unless-source_mute (λ r. TurnsSo total r (λ _. Together S D s d count (with_row (has_row c.args.fetching.now.step) passed) c.args.table.now total c.advance.new.fetching.plan c.advance.new.fetching.step c.advance.new.source c.put_row.new.dest)) c.advance.result tt (λ heard.
      let gives = c.advance.ensures.advances.gives s all.last (Rows count) together.left all.gives heard in
      subst (λ r. TurnsSo total r (λ _. Together S D s d count (with_row (has_row c.args.fetching.now.step) passed) c.args.table.now total c.advance.new.fetching.plan c.advance.new.fetching.step c.advance.new.source c.put_row.new.dest))
      (sym (c.advance.ensures.advances.goes_on heard ∙ rows-go_on S s all.last count (behind_step c.args.fetching.now.step together.left) c.advance.new.fetching.plan c.advance.new.fetching.step c.advance.new.source gives))
      (record { left = behind_step c.args.fetching.now.step together.left; db = put.0; gives = record { last = all.last; gives = gives }; copies = put.2; leads = sym put.1 ∙ together.leads; counted = row-counted S s all.last count passed together.left c.args.fetching.now.plan c.args.fetching.now.step c.args.source.now all.gives together.counted }));
  reads = λ s fetching. record {
    reads = fetches-on g.S.CardLink.is_at g.S.CardLink.is_live g.S.CardLink.faults s c.advance.new.fetching.plan c.advance.new.fetching.step c.advance.result c.args.source.now c.advance.new.source c.advance.ensures.leaves.ends
        (λ heard. record { closing = fetching.closing; last = fetching.last; rows = behind_step c.args.fetching.now.step fetching.rows; gives = c.advance.ensures.advances.gives s fetching.last fetching.closing fetching.rows fetching.gives heard });
    still = c.advance.ensures.still s fetching.last fetching.closing fetching.rows fetching.gives;
  };
  fills = λ d filling. record { fills = λ _. (c.in-Ok.ensures.fills d filling).fills (λ is. absurd cc); moments = (c.put_row.ensures.fills d filling).moments };
  leaves = search rules;
  comes_on = search rules;
}

pub returns-in-Err : goal.returns-in-Err
returns-in-Err g c = record {
  turns = λ s d count passed total together.
      let all = together.gives in
      turns-refused g.D.CardLink.is_at d c.args.table.now (λ _. Together g.S.CardLink.is_at g.D.CardLink.is_at s d count (with_row (has_row c.args.fetching.now.step) passed) c.args.table.now total c.args.fetching.now.plan c.args.fetching.now.step c.args.source.now c.put_row.new.dest)
      c.args.fetching.now.step together.left together.db c.in-Err.end total c.put_row.new.dest together.leads
      (c.in-Err.ensures.puts d together.db together.left together.copies (has-row g.S.CardLink.is_at s (Rows count) all.last together.left c.args.fetching.now.plan c.args.fetching.now.step c.args.source.now all.gives));
  reads = search rules;
  fills = λ d filling. c.in-Err.ensures.fills d filling;
  leaves = search rules;
  comes_on = search rules;
}
