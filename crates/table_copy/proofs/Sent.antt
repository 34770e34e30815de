-- What is sent to both cards can be sent.
use Rattle.std.proofs.Common.{◌≡◌, ℕ, ◌+◌, ◌≤◌, true, List, [], ◌∷◌, length, refl, lit≤, arith}
use Rattle.std.proofs.lemmas.Bool.{le-leb}
use Rattle.std.proofs.lemmas.List.Sums.{sum_by-cons}
use Rattle.scql_base.specs.declared.operation.Operation.TheVariants.{DeclareCursor, OpenCursor, Insert, Fetch, FetchNext, GetResponse}
use Rattle.scql_base.specs.Name.{IsName}
use Rattle.scql_base.specs.Row.{IsRow, row_size}
use Rattle.scql_base.proofs.RowOctets.{row_size-spelled}
use Rattle.scql_model.specs.Matching.{Values}
use Rattle.scql_model.specs.ReadingCommands.{row_octets}
use Rattle.scql_model.specs.Records.{is_row}
use Rattle.scql_model.specs.Spelling.{fits}
use Rattle.script.specs.declared.statement.Statement.TheVariants.{Select}
use Rattle.script.specs.Commands.{asking, IsSendable, CanBeSent}
use Rattle.script.proofs.Sendable.{asked-sent, wanted-sent}

-- an INSERT of a row fits, with the longest name too
pub insert-sent : (table : List ℕ) (row : Values) → IsName table → length table ≤ 8 → 1 ≤ length row → IsRow row → IsSendable (asking 0 (Insert table row))
insert-sent table row named short some is =
    asked-sent 0 (Insert table row) (lit≤ tt) refl refl (named, form) fitting
  where
    form : is_row row ≡ true
    form = rw (le-leb 1 (length row) some, le-leb (length row) 15 is.count, is.widths, le-leb (row_size row) 1020 is.size) refl

    size : length (row_octets (table ∷ row)) ≤ 1275
    size = omega (arith, row_size-spelled (table ∷ row), row_size-more, short, is.size)
      where
        row_size-more : row_size (table ∷ row) ≡ (length table + 1) + row_size row
        row_size-more = sum_by-cons (λ (v : List ℕ). length v + 1) table row

    fitting : fits (asking 0 (Insert table row)) ≡ true
    fitting = le-leb (length (row_octets (table ∷ row))) 1275 size

-- so does the SELECT of all columns and rows of an object
pub selection-sent : (object : List ℕ) → IsName object → length object ≤ 8 → CanBeSent 0 (Select object [] [])
selection-sent object named short = record {
  within = lit≤ tt;
  number = tt;
  commands = (
    asked-sent 0 (DeclareCursor object [] []) (lit≤ tt) refl refl (named, refl, refl) fitting,
    (
      asked-sent 0 OpenCursor (lit≤ tt) refl refl tt refl,
      (
        wanted-sent 0 Fetch (lit≤ tt) refl tt refl,
        (wanted-sent 0 FetchNext (lit≤ tt) refl tt refl, (wanted-sent 0 GetResponse (lit≤ tt) refl tt refl, tt)),
      ),
    ),
  );
}
  where
    more : row_size (object ∷ (0 ∷ []) ∷ []) ≡ (length object + 1) + row_size ((0 ∷ []) ∷ [])
    more = sum_by-cons (λ (v : List ℕ). length v + 1) object ((0 ∷ []) ∷ [])

    fitting : fits (asking 0 (DeclareCursor object [] [])) ≡ true
    fitting = le-leb (length (row_octets (object ∷ (0 ∷ []) ∷ []))) 255 (omega (arith, row_size-spelled (object ∷ (0 ∷ []) ∷ []), more, short))
