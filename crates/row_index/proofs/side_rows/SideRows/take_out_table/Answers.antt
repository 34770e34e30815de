-- The slots are left that are of other tables.
use Rattle.std.proofs.Common.{◌≡◌, ◌<◌, ℕ, List, not, eqb, get_or, rules, ap, sym, subst, ◌∙◌, arith}
use Rattle.std.specs.List.{filter, AllByRecursion}
use Rattle.std.proofs.lemmas.Fn.{filter_same}
use Rattle.eeprom.proofs.InOrder.{all-filter}
use Rattle.row_index.specs.Ordered.{Ordered}
use Rattle.row_index.specs.SideRows.{SideRows}
use Rattle.row_index.proofs.side_rows.SideRows.take_out_table.Goals as goal

pub invariant_of-self : goal.invariant_of-self
invariant_of-self c =
    let test = λ (slot : ℕ). not (eqb (get_or c.as_slice-tables.result.now slot 0) c.args.table) in
    let left = filter_same _ test _ (λ x b f' k. search rules) _ _ c.retain.ensures.filtered in
    record {
      each = c.self.invariant.each;
      within = rw left (all-filter (λ slot. slot < c.self.inside.cells) test c.self.inside.slots.items c.self.invariant.within);
      few = omega (arith, c.retain.ensures.bound, c.self.invariant.few, c.self.inside.slots.ok.0, c.retain.new.self.ok.0);
      room = rw c.retain.ensures.capacity c.self.invariant.room;
    }

pub returns : goal.returns
returns c =
    let test = λ (slot : ℕ). not (eqb (get_or c.as_slice-tables.result.now slot 0) c.args.table) in
    let left = filter_same _ test _ (λ x b f' k. search rules) _ _ c.retain.ensures.filtered in
    let now : c.retain.new.self.items ≡ filter (λ (slot : ℕ). not (eqb (get_or c.self.inside.tables.items slot 0) c.args.table)) c.self.inside.slots.items =
    subst (λ (tables : List ℕ). c.retain.new.self.items ≡ filter (λ (slot : ℕ). not (eqb (get_or tables slot 0) c.args.table)) c.self.inside.slots.items) c.as_slice-tables.ensures.value left in
    rw (← c.self.view_is) (ap (λ (slots : List ℕ). record { cells = c.self.inside.cells; rows = record { tables = c.self.inside.tables.items; slots = slots } }) now)
