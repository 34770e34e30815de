-- The slot is one of the store, since this side has it.
use Rattle.std.proofs.Common.{◌≡◌, ◌<◌, ℕ, zero, suc, List, [], ◌∷◌, length, get_or, refl, ap, arith, subst, sym, ◌∙◌}
use Rattle.std.proofs.Math.ListN.{set}
use Rattle.std.specs.List.{AllByRecursion, insert, remove}
use Rattle.row_index.specs.Ordered.{Ordered}
use Rattle.row_index.proofs.SlotPlaces.{all-inserted, remove-inserted}
use Rattle.row_index.proofs.side_rows.SideRows.follow_removed.Goals as goal
use Rattle.row_index.proofs.side_rows.SideRows.follow_removed.Goals.{After-from}

slots-are : (c : After-from) → c.self.inside.slots.items ≡ insert c.args.other.now.rows.slots c.args.at c.args.slot
slots-are c = rw (← c.self.view_is) at c.requires.one_less.slots

there : (c : After-from) → c.args.slot < c.self.inside.cells
there c =
    all-inserted (λ slot. slot < c.self.inside.cells) c.args.other.now.rows.slots c.args.at c.args.slot (subst (AllByRecursion (λ slot. slot < c.self.inside.cells)) (slots-are c) c.self.invariant.within)

pub index-requires : goal.index-requires
index-requires c =
    let cells = rw (← c.other.view_is, ← c.self.view_is) at c.requires.cells in
    omega (arith, there c, cells, c.from.ensures, c.other.invariant.each, c.other.inside.tables.ok.0)

pub index_mut-requires : goal.index_mut-requires
index_mut-requires c = omega (arith, there (goal.at.index_mut-requires c).After-from, c.from-2.ensures, c.self.invariant.each, c.self.inside.tables.ok.0)

pub returns : goal.returns
returns c =
    let from = (goal.at.returns c).After-from in
    let cells = rw (← c.other.view_is, ← c.self.view_is) at c.requires.cells in
    let inside : c.args.slot < length c.other.inside.tables.items = omega (arith, there from, cells, c.other.invariant.each) in
    let left : c.remove.new.self.items ≡ c.args.other.now.rows.slots =
    c.remove.ensures.items ∙ ap (λ xs. remove xs c.args.at) (slots-are from) ∙ remove-inserted c.args.other.now.rows.slots c.args.at c.args.slot c.requires.one_less.within in
    let value : c.index.result.now ≡ get_or c.other.inside.tables.items c.args.slot 0 =
    c.index.ensures ∙ ap (λ n. get_or c.other.inside.tables.items n c.index.result.now) c.from.ensures ∙ any_default c.other.inside.tables.items c.args.slot c.index.result.now 0 inside in
    let tables : set c.self.inside.tables.items c.from-2.result c.index.result.now ≡ c.other.inside.tables.items =
    ap (λ n. set c.self.inside.tables.items n c.index.result.now) c.from-2.ensures ∙ ap (set c.self.inside.tables.items c.args.slot) value ∙ sym (rw (← c.other.view_is, ← c.self.view_is) at c.requires.one_less.back) in
    record { same = same_rows _ _ _ _ _ _ (sym cells) tables (rw (← c.other.view_is) at left) ∙ c.other.view_is }
  where
    any_default : (xs : List ℕ) (i d e : ℕ) → i < length xs → get_or xs i d ≡ get_or xs i e
    any_default [] i d e within = absurd (omega arith)
    any_default (x ∷ xs) zero d e within = refl
    any_default (x ∷ xs) (suc i) d e within = any_default xs i d e (omega arith)

    same_rows : (a b : ℕ) (t u s v : List ℕ) → a ≡ b → t ≡ u → s ≡ v → ◌≡◌ {A = Ordered} (record { cells = a; rows = record { tables = t; slots = s } }) (record { cells = b; rows = record { tables = u; slots = v } })
    same_rows a b t u s v p q r = cc
