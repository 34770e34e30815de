-- What the first octets of an image say.
use Rattle.std.specs.Prelude.{◌≡◌, ℕ, ◌≤◌, ◌&&◌, Bool, true, List}
use Rattle.eeprom.specs.StoreOf.{fewest_cells, most_cells, number_at, starts_with_magic, is_header, has_header, row_limit, is_gate_open, image_size}
use Rattle.record_store.specs.Held.{IsRowLimit}
use Rattle.record_store.specs.declared.header.Header.{Header}

-- they are those of a store in an image of this size
abbrev pub begins_store : List ℕ → ℕ → Bool
begins_store octets size = starts_with_magic octets && is_header octets size

-- a header of an image of this size
pub record IsHeader (size : ℕ) (header : Header) : Type 0 where
  pub few : fewest_cells ≤ header.cells
  pub many : header.cells ≤ most_cells
  pub rows : IsRowLimit header.row_limit
  pub room : image_size header.cells ≤ size

-- the header of this image
pub record IsHeaderOf (image : List ℕ) (header : Header) : Type 0 where
  pub front : starts_with_magic image ≡ true
  pub fields : has_header image ≡ true
  pub cells : number_at image 6 ≡ header.cells
  pub limit : row_limit image ≡ header.row_limit
  pub gate : is_gate_open image ≡ header.is_open
