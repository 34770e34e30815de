-- Two links are taken into a rack that holds none.
use Rattle.std.proofs.Common.{◌≡◌, Bool, true, false, List, [], ◌∷◌, Option, Result, Ok, Err, lit≤, sym, ◌∙◌, ap, arith}
use Rattle.std.specs.Prelude.{is_err, is_some, IsTrue, OnOk}
use Rattle.std.specs.Option.{option_map_or}
use Rattle.std.proofs.lemmas.Bool.{false≢true}
use Rattle.reader_rack.specs.declared.reader.Reader.{Reader}
use Rattle.reader_rack.specs.Racks.{OthersStay, answers_at, holds_at, reader_at}
use Rattle.reader_rack.specs.Readers.{answers, empty}

done : {A E : Type 0} (r : Result A E) (P : Type 0) → is_err r ≡ false → OnOk r P → P
done (Ok x) P is holds = holds
done (Err e) P is holds = absurd (false≢true (sym is))

pub both-live : {L A E : Type 0} (is_live : L → Bool) (r0 r1 r2 : List (Reader L)) (first second : Result A E) → r0 ≡ empty ∷ empty ∷ empty ∷ empty ∷ []
    → is_err first ≡ holds_at r0 1 → OnOk first (answers_at is_live r1 1 ≡ true) → OthersStay 1 r0 r1
    → is_err second ≡ holds_at r1 2 → OnOk second (answers_at is_live r2 2 ≡ true) → OthersStay 2 r1 r2
    → IsTrue (answers_at is_live r2 1) × IsTrue (answers_at is_live r2 2)
both-live {L} is_live r0 r1 r2 first second none held1 live1 others1 held2 live2 others2 =
    let free1 : is_err first ≡ false = held1 ∙ ap (λ (readers : List (Reader L)). holds_at readers 1) none in
    let same2 : reader_at r1 2 ≡ reader_at r0 2 = others1 2 (lit≤ tt, lit≤ tt) (λ is. omega (arith, is)) in
    let free2 : is_err second ≡ false =
    held2 ∙ (ap (λ (reader : Option (Reader L)). option_map_or (λ (r : Reader L). is_some r.link) reader false) same2 ∙ ap (λ (readers : List (Reader L)). holds_at readers 2) none) in
    let same1 : reader_at r2 1 ≡ reader_at r1 1 = others2 1 (lit≤ tt, lit≤ tt) (λ is. omega (arith, is)) in
    (ap (λ (reader : Option (Reader L)). option_map_or (answers is_live) reader false) same1 ∙ done first _ free1 live1, done second _ free2 live2)
