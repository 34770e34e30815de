use Rattle.std.proofs.Common.{◌≡◌, ℕ, ◌+◌, ◌*◌, ◌≤◌, ◌-◌, List, length, take, drop, refl, arith, length-append, rules}
use Rattle.std.proofs.lemmas.List.{length-replicate}
use Rattle.std.proofs.lemmas.Result.{IfOk-equal}
use Rattle.eeprom.specs.Chip.{Keeps}
use Rattle.eeprom.specs.StoreOf.{image_size}
use Rattle.record_store.specs.Appends.{end_of}
use Rattle.record_store.specs.FreshImage.{fresh_directory, fresh_cell}
use Rattle.record_store.proofs.Appending.{Appends-then, Appends-new}
use Rattle.record_store.proofs.Fronts.{Keeps-then}
use Rattle.record_store.proofs.fresh.write_body.Goals.{After-new-writer, After-write_header, After-write_directory, After-write_cell, After-write_cell-2, After-fill}
use Rattle.record_store.proofs.fresh.write_body.Goals as goal

length-directory : (n : ℕ) → 2 ≤ n → length (fresh_directory n) ≡ 6 * n + 2
length-directory n few = simp (length-append, length-replicate) (omega arith)

length-cell : (octets : List ℕ) → length octets ≤ 28 → length (fresh_cell octets) ≡ 32
length-cell octets short = simp (length-append, length-replicate) (omega arith)

-- the writer begins behind the magic
start : (g : _) (c : After-new-writer g) → end_of c.new-writer.result ≡ 4
start g c = rw (c.new-writer.ensures.place, c.new-writer.ensures.empty) refl

headed : (g : _) (c : After-write_header g) → Keeps (drop (image_size c.args.cells)) (g.B.Eeprom.chip c.args.bench.now) (g.B.Eeprom.chip c.write_header.new.bench)
headed g c = c.write_header.ensures.after (image_size c.args.cells) (omega (arith, start g (goal.at.After-write_header g c).After-new-writer))

listed : (g : _) (c : After-write_directory g) → Keeps (drop (image_size c.args.cells)) (g.B.Eeprom.chip c.args.bench.now) (g.B.Eeprom.chip c.write_directory.new.bench)
listed g c =
    Keeps-then (drop (image_size c.args.cells)) _ _ _ (headed g (goal.at.After-write_directory g c).After-write_header) (c.write_directory.ensures.after (image_size c.args.cells) (omega (arith, start g (goal.at.After-write_directory g c).After-new-writer, c.in_ok-write_header.ensures.appends.end)))

first_written : (g : _) (c : After-write_cell g) → Keeps (drop (image_size c.args.cells)) (g.B.Eeprom.chip c.args.bench.now) (g.B.Eeprom.chip c.write_cell.new.bench)
first_written g c =
    Keeps-then (drop (image_size c.args.cells)) _ _ _ (listed g (goal.at.After-write_cell g c).After-write_directory) (c.write_cell.ensures.after (image_size c.args.cells) (omega (arith, start g (goal.at.After-write_cell g c).After-new-writer, c.in_ok-write_header.ensures.appends.end, c.in_ok-write_directory.ensures.appends.end, length-directory c.args.cells (omega (arith, c.requires.few)))))

second_written : (g : _) (c : After-write_cell-2 g) → Keeps (drop (image_size c.args.cells)) (g.B.Eeprom.chip c.args.bench.now) (g.B.Eeprom.chip c.write_cell-2.new.bench)
second_written g c =
    Keeps-then (drop (image_size c.args.cells)) _ _ _ (first_written g (goal.at.After-write_cell-2 g c).After-write_cell) (c.write_cell-2.ensures.after (image_size c.args.cells) (omega (arith, start g (goal.at.After-write_cell-2 g c).After-new-writer, c.in_ok-write_header.ensures.appends.end, c.in_ok-write_directory.ensures.appends.end, length-directory c.args.cells (omega (arith, c.requires.few)), c.in_ok-write_cell.ensures.appends.end, length-cell c.args.first.now c.requires.first)))

filled : (g : _) (c : After-fill g) → Keeps (drop (image_size c.args.cells)) (g.B.Eeprom.chip c.args.bench.now) (g.B.Eeprom.chip c.fill.new.bench)
filled g c =
    Keeps-then (drop (image_size c.args.cells)) _ _ _ (second_written g (goal.at.After-fill g c).After-write_cell-2) (c.fill.ensures.after (image_size c.args.cells) (omega (arith, start g (goal.at.After-fill g c).After-new-writer, c.in_ok-write_header.ensures.appends.end, c.in_ok-write_directory.ensures.appends.end, length-directory c.args.cells (omega (arith, c.requires.few)), c.in_ok-write_cell.ensures.appends.end, length-cell c.args.first.now c.requires.first, c.in_ok-write_cell-2.ensures.appends.end, length-cell c.args.second.now c.requires.second)))

pub returns : goal.returns
returns g c = record {
  image =
      let all = Appends-then c.in_ok-write_header.ensures.appends (Appends-then c.in_ok-write_directory.ensures.appends
      (Appends-then c.in_ok-write_cell.ensures.appends (Appends-then c.in_ok-write_cell-2.ensures.appends c.in_ok-fill.ensures.appends))) in
      IfOk-equal c.flush.result _ _ _ c.flush.ensures.written (Appends-new 4 c.new-writer.ensures.place c.new-writer.ensures.empty all);
  front =
      let look = take 4 in
      Keeps-then look _ _ _ c.in_ok-write_header.ensures.front (Keeps-then look _ _ _ c.in_ok-write_directory.ensures.front (Keeps-then look _ _ _ c.in_ok-write_cell.ensures.front (
      Keeps-then look _ _ _ c.in_ok-write_cell-2.ensures.front (Keeps-then look _ _ _ c.in_ok-fill.ensures.front c.flush.ensures.front))));
  behind =
      let at = goal.at.returns g c in
      Keeps-then (drop (image_size c.args.cells)) _ _ _ (filled g at.After-fill)
      (c.flush.ensures.after (image_size c.args.cells) (omega (arith, start g at.After-new-writer, c.in_ok-write_header.ensures.appends.end, c.in_ok-write_directory.ensures.appends.end, length-directory c.args.cells (omega (arith, c.requires.few)), c.in_ok-write_cell.ensures.appends.end, length-cell c.args.first.now c.requires.first, c.in_ok-write_cell-2.ensures.appends.end, length-cell c.args.second.now c.requires.second, c.in_ok-fill.ensures.appends.end, length-replicate {A = ℕ} (64 * c.args.cells - 64) 0)));
  cause = search rules;
}

pub returns-in_err-write_header : goal.returns-in_err-write_header
returns-in_err-write_header g c = record {
  image = search rules;
  front = search rules;
  behind = headed g (goal.at.returns-in_err-write_header g c).After-write_header;
  cause = search rules;
}

pub returns-in_err-write_directory : goal.returns-in_err-write_directory
returns-in_err-write_directory g c = record {
  image = search rules;
  front = search rules;
  behind = listed g (goal.at.returns-in_err-write_directory g c).After-write_directory;
  cause = search rules;
}

pub returns-in_err-write_cell : goal.returns-in_err-write_cell
returns-in_err-write_cell g c = record {
  image = search rules;
  front = search rules;
  behind = first_written g (goal.at.returns-in_err-write_cell g c).After-write_cell;
  cause = search rules;
}

pub returns-in_err-write_cell-2 : goal.returns-in_err-write_cell-2
returns-in_err-write_cell-2 g c = record {
  image = search rules;
  front =
      Keeps-then (take 4) _ _ _ c.in_ok-write_header.ensures.front (Keeps-then (take 4) _ _ _ c.in_ok-write_directory.ensures.front (Keeps-then (take 4) _ _ _ c.in_ok-write_cell.ensures.front c.write_cell-2.ensures.front));
  behind = second_written g (goal.at.returns-in_err-write_cell-2 g c).After-write_cell-2;
  cause = search rules;
}

pub returns-in_err-fill : goal.returns-in_err-fill
returns-in_err-fill g c = record {
  image = search rules;
  front =
      Keeps-then (take 4) _ _ _ c.in_ok-write_header.ensures.front (Keeps-then (take 4) _ _ _ c.in_ok-write_directory.ensures.front (Keeps-then (take 4) _ _ _ c.in_ok-write_cell.ensures.front
      (Keeps-then (take 4) _ _ _ c.in_ok-write_cell-2.ensures.front c.fill.ensures.front)));
  behind = filled g (goal.at.returns-in_err-fill g c).After-fill;
  cause = search rules;
}
