use Rattle.reader_rack.proofs.boxed.BoxedLink.new.Goals as goal

-- src/boxed.rt:16:5
pub returns-clause-at : goal.returns-clause-at
returns-clause-at g c = λ m at. record { says = at; over = (g.dyn-1-met _).0.valid _ _ at; opens = (g.dyn-1-met _).0.opens _ _ at }
