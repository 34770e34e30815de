-- The table that is seen and takes the row, or the first refusal.
use Rattle.std.proofs.Common.{rules, ◌≡◌, true, Some, None, sym, ap, ◌∙◌}
use Rattle.std.specs.Prelude.{cond}
use Rattle.scql_model.specs.Database.{Database}
use Rattle.scql_model.specs.Rights.{appears, seen_named}
use Rattle.record_table.specs.Asking.{Holds}
use Rattle.record_table.proofs.Asking.{same-held}
use Rattle.privilege_table.specs.Rights.{AreRights}
use Rattle.privilege_table.specs.declared.rights.Privilege.TheVariants.{Insert}
use Rattle.privilege_table.proofs.Seen.{seen-held}
use Rattle.db_write.proofs.RowInserted.{inserts, inserts-foreign, inserts-misfit, inserts-none, inserts-other}
use Rattle.db_write.proofs.inserting.find_table.Goals.{After-see}
use Rattle.db_write.proofs.inserting.find_table.Goals as goal

-- what the actor may do with the object that was found,
rights : (g : _) (c : After-see g) (db : Database) → Holds c.args.reader.now db → AreRights db c.args.actor c.in-Some.object c.in_ok-rights.rights
rights g c db held = c.in_ok-rights.ensures.rights db (same-held c.in_ok-find_name_into.ensures.goes_on c.in_ok-find_name_into.ensures.frame.same held)

-- which is the one of its name, where it appears
seen : (g : _) (c : After-see g) (db : Database) → Holds c.args.reader.now db → appears db c.args.actor c.in-Some.object ≡ true → Some c.in-Some.object ≡ seen_named db c.args.actor c.args.name
seen g c db held sees =
    let o = c.in-Some.object in
    sym (ap (λ b. cond b (Some o) None) sees) ∙ seen-held c.args.reader.now.store.now c.args.reader.now.side (g.B.Eeprom.chip c.args.reader.now.bench.now) db c.args.actor c.args.name (Some o) held (rw c.in-Some.is at c.in_ok-find_name_into.ensures.found)

pub returns-in_default : goal.returns-in_default
returns-in_default g c = record {
  answers = λ db held.
      rw c.refused.ensures (inserts-none db c.args.actor c.args.name c.args.row.now (seen-held c.args.reader.now.store.now c.args.reader.now.side (g.B.Eeprom.chip c.args.reader.now.bench.now) db c.args.actor c.args.name None held (rw c.in_default.is at c.in_ok-find_name_into.ensures.found)));
  goes_on = search rules;
  frame = search rules;
}

pub returns-then-not-see : goal.returns-then-not-see
returns-then-not-see g c = record {
  answers = λ db held.
      let o = c.in-Some.object in
      let w = (goal.at.returns-then-not-see g c).After-see in
      let hidden = (rights g w db held).appears ∙ (sym c.see.ensures ∙ c.if-not-see.true) in
      let none = sym (ap (λ b. cond b (Some o) None) hidden) ∙ seen-held c.args.reader.now.store.now c.args.reader.now.side (g.B.Eeprom.chip c.args.reader.now.bench.now) db c.args.actor c.args.name (Some o) held (rw c.in-Some.is at c.in_ok-find_name_into.ensures.found) in
      rw c.refused-then-not-see.ensures (inserts-none db c.args.actor c.args.name c.args.row.now none);
  goes_on = search rules;
  frame = search rules;
}

pub returns-then-not-is_table : goal.returns-then-not-is_table
returns-then-not-is_table g c = record {
  answers = λ db held.
      let w = (goal.at.returns-then-not-is_table g c).After-see in
      let sees = (rights g w db held).appears ∙ (sym c.see.ensures ∙ c.if-not-see.false) in
      rw c.refused-then-not-is_table.ensures (inserts-other db c.args.actor c.args.name c.args.row.now c.in-Some.object (seen g w db held sees) (sym c.is_table.ensures ∙ c.if-not-is_table.true));
  goes_on = search rules;
  frame = search rules;
}

pub returns-then-not-have : goal.returns-then-not-have
returns-then-not-have g c = record {
  answers = λ db held.
      let w = (goal.at.returns-then-not-have g c).After-see in
      let sees = (rights g w db held).appears ∙ (sym c.see.ensures ∙ c.if-not-see.false) in
      rw c.refused-then-not-have.ensures (inserts-foreign db c.args.actor c.args.name c.args.row.now c.in-Some.object (seen g w db held sees) (sym c.is_table.ensures ∙ c.if-not-is_table.false) ((rights g w db held).holds Insert ∙ (sym c.have.ensures ∙ c.if-not-have.true)));
  goes_on = search rules;
  frame = search rules;
}

pub returns-then-len-column_count : goal.returns-then-len-column_count
returns-then-len-column_count g c = record {
  answers = λ db held.
      let w = (goal.at.returns-then-len-column_count g c).After-see in
      let sees = (rights g w db held).appears ∙ (sym c.see.ensures ∙ c.if-not-see.false) in
      let table = sym c.is_table.ensures ∙ c.if-not-is_table.false in
      rw c.refused-then-len-column_count.ensures (inserts-misfit db c.args.actor c.args.name c.args.row.now c.in-Some.object (seen g w db held sees) table ((rights g w db held).holds Insert ∙ (sym c.have.ensures ∙ c.if-not-have.false))
      (λ same. c.if-len-column_count.true (c.len.ensures.count ∙ same ∙ sym (c.column_count.ensures table))));
  goes_on = search rules;
  frame = search rules;
}

pub returns : goal.returns
returns g c = record {
  answers = λ db held.
      let w = (goal.at.returns g c).After-see in
      let sees = (rights g w db held).appears ∙ (sym c.see.ensures ∙ c.if-not-see.false) in
      let table = sym c.is_table.ensures ∙ c.if-not-is_table.false in
      inserts db c.args.actor c.args.name c.args.row.now c.in-Some.object (seen g w db held sees) table ((rights g w db held).holds Insert ∙ (sym c.have.ensures ∙ c.if-not-have.false)) (sym c.len.ensures.count ∙ c.if-len-column_count.false ∙ c.column_count.ensures table);
  goes_on = search rules;
  frame = search rules;
}
