-- What a link records of the replies that it passes on.
use Rattle.std.specs.Prelude.{◌≡◌, ℕ, List, [], ◌∷◌, ◌++◌, take}
use Rattle.card_link.specs.declared.outcome.Outcome.{Outcome}
use Rattle.card_link.specs.declared.outcome.Outcome.TheVariants.{Replied, Mute}

-- a link, and the status words of the replies that it passed on, as far as there was room
pub record Recording (L : Type 0) : Type 0 where
  pub inner : L
  pub words : List ℕ

-- The words with that of a further reply, while there are fewer than fit. A card that is mute gave no reply.
abbrev pub recorded : ℕ → List ℕ → Outcome → ℕ → List ℕ
recorded room words Replied word = take room (words ++ word ∷ [])
recorded room words Mute word = words

-- further words stand behind those that were there
pub record Continues (old new : List ℕ) : Type 0 where
  pub more : List ℕ
  pub whole : new ≡ old ++ more
