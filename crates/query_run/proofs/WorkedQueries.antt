-- Worked queries: the definitions compute each text from what is shown.
use Rattle.std.proofs.Common.{◌≡◌, [], ◌∷◌, Some, None, codes, refl}
use Rattle.std.specs.Fmt.{digits}
use Rattle.hex.proofs.OnLiterals.{hex_on_literals}
use Rattle.hex.specs.Hex.{encode_with}
use Rattle.scql_model.specs.Shown.{Shown, ShownObject}
use Rattle.row_join.specs.Joins.{in_order}
use Rattle.query_run.specs.QueryText.{query_text}

-- two tables, of three rows and of two
unfoldable t : ShownObject
t = record {
  name = codes "T";
  table = Some (record { columns = codes "A" ∷ codes "B" ∷ []; rows = (codes "1" ∷ codes "x" ∷ []) ∷ (codes "2" ∷ codes "y" ∷ []) ∷ (codes "3" ∷ codes "x" ∷ []) ∷ [] });
}

unfoldable u : ShownObject
u = record { name = codes "U"; table = Some (record { columns = codes "B" ∷ codes "C" ∷ []; rows = (codes "x" ∷ codes "p" ∷ []) ∷ (codes "y" ∷ codes "q" ∷ []) ∷ [] }) }

unfoldable both : Shown
both = record { objects = t ∷ u ∷ []; cursor = None }

-- SELECT T.A, U.C FROM T, U WHERE T.B = U.B ORDER BY U.C, T.A
joined : query_text both
    (record {
      objects = record { object = codes "T"; columns = codes "A" ∷ codes "B" ∷ [] } ∷ record { object = codes "U"; columns = codes "C" ∷ codes "B" ∷ [] } ∷ [];
      selected = record { object = 0; place = 0 } ∷ record { object = 1; place = 0 } ∷ [];
      equalities = record { left = record { object = 0; place = 1 }; right = record { object = 1; place = 1 } } ∷ [];
      order = record { object = 1; place = 0 } ∷ record { object = 0; place = 0 } ∷ [];
    })
    ≡ codes "'1', 'p'\n'3', 'p'\n'2', 'q'\nrows 3\n"
unfolding both t u query_text in_order digits
joined = refl

-- SELECT T.A FROM T, U
all_combinations : query_text both
    (record {
      objects = record { object = codes "T"; columns = codes "A" ∷ [] } ∷ record { object = codes "U"; columns = [] } ∷ [];
      selected = record { object = 0; place = 0 } ∷ [];
      equalities = [];
      order = [];
    })
    ≡ codes "'1'\n'1'\n'2'\n'2'\n'3'\n'3'\nrows 6\n"
unfolding both t u query_text in_order digits
all_combinations = refl

-- SELECT T.A FROM T, Z
no_object : query_text both
    (record {
      objects = record { object = codes "T"; columns = codes "A" ∷ [] } ∷ record { object = codes "Z"; columns = [] } ∷ [];
      selected = record { object = 0; place = 0 } ∷ [];
      equalities = [];
      order = [];
    })
    ≡ codes "refused 6A88\n"
unfolding both t u query_text encode_with hex_on_literals
no_object = refl
