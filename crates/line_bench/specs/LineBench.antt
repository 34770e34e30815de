-- What an EEPROM in memory tells that keeps a log of its writes and a text.
use Rattle.std.specs.Prelude.{◌≡◌, ℕ, ◌-◌, ◌<◌, ◌≤◌, ◌^◌, suc, List, [], ◌∷◌, ◌++◌, length, min, vec_len, vec_capacity, Option, Some, None, Result, IsOk, OnOk, OnErr}
use Rattle.eeprom.specs.Chip.{Chip, Stretch, giving}
use Rattle.eeprom.specs.Fault.{Counts}
use Rattle.eeprom.specs.Octets.{ReadsOctets, WritesOctets}
use Rattle.eeprom.specs.Output.{Follows}
use Rattle.log_bench.specs.Log as logs
use Rattle.log_bench.specs.LogBench as log
use Rattle.log_bench.specs.LogBench.{LogsWrite}
use Rattle.log_bench.specs.Writes.{Write}
use Rattle.line_bench.specs.Spans.{spans}
use Rattle.line_bench.specs.declared.line_bench.LineBench.{LineBench}

-- the image, the writes since the log was begun, the image when it was begun, and the text since then
abbrev pub image_of : LineBench → List ℕ
image_of b = log.image_of b.log

abbrev pub writes_of : LineBench → List Write
writes_of b = log.log_of b.log

abbrev pub first_of : LineBench → List ℕ
first_of b = log.first_of b.log

abbrev pub text_of : LineBench → List ℕ
text_of b = b.text.items

-- how often a write found no memory for the log, and how often a piece of text found none
abbrev pub faults_of : LineBench → ℕ
faults_of b = b.faults

abbrev pub text_faults_of : LineBench → ℕ
text_faults_of b = b.text_faults

-- What it tells of this: a line feed goes out, that of the line which is asked, and the log is begun meanwhile; the text comes behind it.
abbrev pub given_line : List ℕ → List ℕ
given_line text = 0x0A ∷ text

abbrev pub line_past : List ℕ → List Write → List ℕ → ℕ → List Stretch
line_past first writes marks now = giving first 0 1 ∷ spans 0 writes marks first now

abbrev pub line_chip : List ℕ → List ℕ → List Write → List ℕ → List ℕ → ℕ → Chip
line_chip image first writes marks text sink_faults = record {
  still = record { size = length image; mark = suc (length text); given = Some (given_line text); sink_faults = sink_faults };
  image = Some image;
  written = None;
  clock = length (line_past first writes marks (length text));
  past = Some (line_past first writes marks (length text));
}

abbrev pub chip_of : LineBench → Chip
chip_of b = line_chip (image_of b) (first_of b) (writes_of b) b.marks.items (text_of b) (text_faults_of b)

abbrev pub given_of : LineBench → Option (List ℕ)
given_of b = Some (given_line (text_of b))

-- how many more writes, how many octets of them, and how many octets of text find room without more memory
abbrev pub room_for_writes : LineBench → ℕ
room_for_writes b = min (logs.room_for_writes b.log.log) (vec_capacity b.marks - vec_len b.marks)

abbrev pub room_for_octets : LineBench → ℕ
room_for_octets b = logs.room_for_octets b.log.log

abbrev pub room_for_text : LineBench → ℕ
room_for_text b = vec_capacity b.text - vec_len b.text

-- how many octets the image has
abbrev pub size_of : LineBench → ℕ
size_of b = (chip_of b).still.size

-- how many octets were read isn't told
abbrev pub octets_read_of : LineBench → Option ℕ
octets_read_of b = None

-- the size fits a usize
pub small_of : (b : LineBench) → (chip_of b).still.size < 2 ^ 64
small_of b = log.small_of b.log

-- what giving leaves: the text goes on, and all else stays
pub record LeavesLog (old new : LineBench) : Type 0 where
  pub more : List ℕ
  pub text : text_of new ≡ text_of old ++ more
  pub log : new.log ≡ old.log
  pub marks : new.marks.items ≡ old.marks.items
  pub faults : faults_of new ≡ faults_of old

-- the image has these octets at this place, the log has the write as its last, and so much text had been given
pub record Enters (at : ℕ) (octets : List ℕ) (old new : LineBench) : Type 0 where
  pub logged : LogsWrite at octets old.log new.log
  pub mark : new.marks.items ≡ old.marks.items ++ length (text_of old) ∷ []

-- image, log and marks are as they were
pub record IsAsBefore (old new : LineBench) : Type 0 where
  pub image : image_of new ≡ image_of old
  pub writes : writes_of new ≡ writes_of old
  pub marks : new.marks.items ≡ old.marks.items

-- both counts of faults are as they were
pub record KeepsFaults (old new : LineBench) : Type 0 where
  pub writes : faults_of new ≡ faults_of old
  pub texts : text_faults_of new ≡ text_faults_of old

-- A new one over an image, with room for so many writes and so many octets of them.
pub record IsNew (of : List ℕ) (writes octets : ℕ) (bench : LineBench) : Type 0 where
  pub image : image_of bench ≡ of
  -- Nothing was written or given yet, and no memory was wanting.
  pub none : (writes_of bench ≡ []) × (text_of bench ≡ [])
  pub faults : (faults_of bench ≡ 0) × (text_faults_of bench ≡ 0)
  pub room : (room_for_writes bench ≡ writes) × (room_for_octets bench ≡ octets)

-- Log and text were begun anew, with room for a text of so many octets.
pub record IsBegun (octets : ℕ) (old new : LineBench) : Type 0 where
  -- The image stays,
  pub image : image_of new ≡ image_of old
  -- there is neither a write nor a text,
  pub none : (writes_of new ≡ []) × (text_of new ≡ [])
  -- and the counts of faults stay.
  pub faults : KeepsFaults old new
  pub room : room_for_text new ≡ octets

-- A write was done, or there was no memory for it.
pub record WritesOrWants {E : Type 0} (at : ℕ) (octets : List ℕ) (old new : LineBench) (result : Result (Unit {0}) E) : Type 0 where
  pub done : OnOk result (Enters at octets old new)
  pub wanting : OnErr result (IsAsBefore old new)
  -- Where the log has room for it, it was done.
  pub fits : 1 ≤ room_for_writes old → length octets ≤ room_for_octets old → IsOk result
  -- The text stays.
  pub text : new.text ≡ old.text

-- A read never fails.
pub record ReadsImage {T E : Type 0} (at : ℕ) (buffer got : List ℕ) (old new : LineBench) (result : Result T E) : Type 0 where
  pub succeeds : IsOk result
  pub reads : ReadsOctets chip_of octets_read_of faults_of at buffer got old new result

-- A write is entered into the log.
pub record EntersWrite {E : Type 0} (at : ℕ) (octets : List ℕ) (old new : LineBench) (result : Result (Unit {0}) E) : Type 0 where
  pub entered : WritesOrWants at octets old new result
  pub writes : WritesOctets chip_of octets_read_of faults_of at octets old new result

-- A piece of text is given, or there was no memory for it.
pub record GivesText {T E : Type 0} (octets : List ℕ) (old new : LineBench) (result : Result T E) : Type 0 where
  pub wanting : OnErr result (text_of new ≡ text_of old)
  -- Where there is room for it, it is given.
  pub fits : length octets ≤ room_for_text old → IsOk result
  -- What an outlet does:
  pub ok : OnOk result (Follows (length octets) octets (given_of old) (given_of new))
  pub err : OnErr result ((count : ℕ) × Follows count octets (given_of old) (given_of new))
  pub rest : LeavesLog old new
  pub cause : Counts (text_faults_of old) (text_faults_of new) result
