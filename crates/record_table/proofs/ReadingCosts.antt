-- How many octets of a side's slots are read by no search, by one, and by two.
use Rattle.std.proofs.Common.{ℕ, ◌+◌, ◌≤◌, List, Option, Some, None, Result, Ok, Err, refl, ◌∙◌, arith}
use Rattle.std.specs.Prelude.{IfOk}
use Rattle.eeprom.specs.StoreOf.{Slots}
use Rattle.scql_model.specs.Database.{Database}
use Rattle.eeprom.specs.declared.device.Eeprom.{Ghosts}
use Rattle.record_store.specs.declared.found.Found.{Found}
use Rattle.record_store.specs.declared.side_reader.SideReader.{SideReader}
use Rattle.record_store.specs.declared.tags.Tag.TheVariants.{Stamp}
use Rattle.catalog_codec.specs.Kinds.{Kind}
use Rattle.record_table.specs.Asking.{octets_so_far, slots_asked}
use Rattle.record_table.specs.Listed.{cells_marked}
use Rattle.record_table.specs.Reading.{NeverFalls, ReadsCells, ReadsDatabase, ReadsSide}
use Rattle.record_table.specs.Searching.{FindsNext, FindsStamp, FindsStampInto}
use Rattle.record_table.specs.Tagged.{cells_tagged}
use Rattle.record_table.proofs.Asking.{SameSide-refl, SameSide-then, same-slots}

pub reads-none : (cells : Slots → ℕ) (slots : Option Slots) (a : Option ℕ) → ReadsCells cells slots a a
reads-none cells None a = tt
reads-none cells (Some slots) a = λ after told. (after, told, omega arith)

pub reads-one : (cells more : Slots → ℕ) (slots : Option Slots) (a b : Option ℕ) → ReadsCells cells slots a b → ReadsCells (λ slots. cells slots + more slots) slots a b
reads-one cells more None a b one = tt
reads-one cells more (Some slots) a b one = λ after told. let before = one after told in (before.0, before.1, omega (arith, before.2))

pub reads-both : (cells more : Slots → ℕ) (slots : Option Slots) (a b c : Option ℕ) → ReadsCells cells slots a b → ReadsCells more slots b c → ReadsCells (λ slots. cells slots + more slots) slots a c
reads-both cells more None a b c one two = tt
reads-both cells more (Some slots) a b c one two = λ after told.
    let mid = two after told in
    let before = one mid.0 mid.1 in
    (before.0, before.1, omega (arith, mid.2, before.2))

-- the count never falls
pub falls-none : (slots : Option Slots) (a : Option ℕ) → NeverFalls slots a a
falls-none None a = tt
falls-none (Some slots) a = λ after told. (after, told, omega arith)

pub falls-both : (slots : Option Slots) (a b c : Option ℕ) → NeverFalls slots a b → NeverFalls slots b c → NeverFalls slots a c
falls-both None a b c one two = tt
falls-both (Some slots) a b c one two = λ after told.
    let mid = two after told in
    let before = one mid.0 mid.1 in
    (before.0, before.1, omega (arith, mid.2, before.2))

fewer : (cells all : Slots → ℕ) (slots : Option Slots) (a b : Option ℕ) → ((slots : Slots) → cells slots ≤ all slots) → ReadsCells cells slots a b → ReadsCells all slots a b
fewer cells all None a b fits read = tt
fewer cells all (Some slots) a b fits read = λ after told. let before = read after told in (before.0, before.1, omega (arith, before.2, fits slots))

ok_both : {U E : Type 0} (cells more all : Slots → ℕ) (slots : Option Slots) (a b c : Option ℕ) (result : Result U E) → ((slots : Slots) → cells slots + more slots ≤ all slots) → ReadsCells cells slots a b
    → IfOk result (λ _. ReadsCells more slots b c) → IfOk result (λ _. ReadsCells all slots a c)
ok_both cells more all slots a b c (Ok y) fits one two = fewer (λ slots. cells slots + more slots) all slots a c fits (reads-both cells more slots a b c one two)
ok_both cells more all slots a b c (Err e) fits one two = tt

ok_falls : {U E : Type 0} (slots : Option Slots) (a b c : Option ℕ) (result : Result U E) → NeverFalls slots a b → IfOk result (λ _. NeverFalls slots b c) → IfOk result (λ _. NeverFalls slots a c)
ok_falls slots a b c (Ok y) one two = falls-both slots a b c one two
ok_falls slots a b c (Err e) one two = tt

module _ {B T E : Type 0} {g : Ghosts B} where
  -- Nothing is read.
  pub ReadsSide-none : {cells : Slots → ℕ} {here : SideReader B g} {x : T} → ReadsSide {E = E} cells here here (Ok x)
  ReadsSide-none {cells} {here} = record {
    octets_read = reads-none cells (slots_asked here) (octets_so_far here);
    rises = falls-none (slots_asked here) (octets_so_far here);
    goes_on = SameSide-refl;
    frame = record { same = refl; counts = (omega arith, refl) };
  }

  -- What was read and then answered otherwise reads no more.
  pub ReadsSide-told : {U : Type 0} {cells all : Slots → ℕ} {before after : SideReader B g} {x : T} {y : U} → ReadsSide {E = E} cells before after (Ok x) → ((slots : Slots) → cells slots ≤ all slots)
      → ReadsSide {E = E} all before after (Ok y)
  ReadsSide-told {cells} {all} {before} {after} reads fits = record {
    octets_read = fewer cells all (slots_asked before) (octets_so_far before) (octets_so_far after) fits reads.octets_read;
    rises = reads.rises;
    goes_on = reads.goes_on;
    frame = record { same = reads.frame.same; counts = reads.frame.counts };
  }

  -- One call reads, and then another.
  pub ReadsSide-then : {U : Type 0} {cells more all : Slots → ℕ} {before mid after : SideReader B g} {x : T} {result : Result U E} → ReadsSide {E = E} cells before mid (Ok x) → ReadsSide more mid after result
      → ((slots : Slots) → cells slots + more slots ≤ all slots) → ReadsSide all before after result
  ReadsSide-then {cells} {more} {all} {before} {mid} {after} {x} {result} one two fits = record {
    octets_read = ok_both cells more all (slots_asked before) (octets_so_far before) (octets_so_far mid) (octets_so_far after) result fits one.octets_read (rw (same-slots one.goes_on one.frame.same) at two.octets_read);
    rises = ok_falls (slots_asked before) (octets_so_far before) (octets_so_far mid) (octets_so_far after) result one.rises (rw (same-slots one.goes_on one.frame.same) at two.rises);
    goes_on = SameSide-then one.goes_on two.goes_on;
    frame = record { same = two.frame.same ∙ one.frame.same; counts = rw one.frame.counts.1 at two.frame.counts };
  }

  -- and what both give is answered otherwise.
  pub ReadsSide-both : {U V : Type 0} {cells more all : Slots → ℕ} {before mid after : SideReader B g} {x : T} {y : U} {z : V} → ReadsSide {E = E} cells before mid (Ok x) → ReadsSide {E = E} more mid after (Ok y)
      → ((slots : Slots) → cells slots + more slots ≤ all slots) → ReadsSide {E = E} all before after (Ok z)
  ReadsSide-both {cells} {more} {all} {before} {mid} {after} one two fits = record {
    octets_read = fewer (λ slots. cells slots + more slots) all (slots_asked before) (octets_so_far before) (octets_so_far after) fits
        (reads-both cells more (slots_asked before) (octets_so_far before) (octets_so_far mid) (octets_so_far after) one.octets_read (rw (same-slots one.goes_on one.frame.same) at two.octets_read));
    rises = falls-both (slots_asked before) (octets_so_far before) (octets_so_far mid) (octets_so_far after) one.rises (rw (same-slots one.goes_on one.frame.same) at two.rises);
    goes_on = SameSide-then one.goes_on two.goes_on;
    frame = record { same = two.frame.same ∙ one.frame.same; counts = rw one.frame.counts.1 at two.frame.counts };
  }

module _ {B X E : Type 0} {g : Ghosts B} {kind : Kind X} where
  -- What a search reads.
  pub FindsStamp-reads : {stamp : ℕ} {before after : SideReader B g} {result : Result (Option (Found X)) E} → FindsStamp kind stamp before after result → ReadsSide (cells_tagged kind (Some (Stamp stamp))) before after result
  FindsStamp-reads finds = record { octets_read = finds.octets_read; rises = finds.rises; goes_on = finds.goes_on; frame = finds.frame }

  pub FindsStampInto-reads : {stamp : ℕ} {before after : SideReader B g} {place : Option X} {result : Result (Option ℕ) E} → FindsStampInto kind stamp before after place result
      → ReadsSide (cells_tagged kind (Some (Stamp stamp))) before after result
  FindsStampInto-reads finds = record { octets_read = finds.octets_read; rises = finds.rises; goes_on = finds.goes_on; frame = finds.frame }

  pub FindsNext-reads : {stamp : ℕ} {among : List X → List X} {before after : SideReader B g} {result : Result (Option (Found X)) E} → FindsNext kind stamp among before after result → ReadsSide (cells_marked kind) before after result
  FindsNext-reads finds = record { octets_read = finds.octets_read; rises = finds.rises; goes_on = finds.goes_on; frame = finds.frame }

module _ {B T E : Type 0} {g : Ghosts B} {cells : Database → ℕ} where
  -- Nothing is read of a database, or what was read is answered otherwise.
  pub ReadsDatabase-none : {here : SideReader B g} {x : T} → ReadsDatabase {E = E} cells here here (Ok x)
  ReadsDatabase-none {here} = record {
    octets_read = λ db held after told. (after, told, omega arith);
    rises = falls-none (slots_asked here) (octets_so_far here);
    goes_on = SameSide-refl;
    frame = record { same = refl; counts = (omega arith, refl) };
  }

  pub ReadsDatabase-told : {U : Type 0} {before after : SideReader B g} {x : T} {y : U} → ReadsDatabase {E = E} cells before after (Ok x) → ReadsDatabase {E = E} cells before after (Ok y)
  ReadsDatabase-told reads = record { octets_read = reads.octets_read; rises = reads.rises; goes_on = reads.goes_on; frame = record { same = reads.frame.same; counts = reads.frame.counts } }
