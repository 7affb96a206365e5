-- Slots, the newest at the end.
use Rattle.std.specs.Prelude.{◌≡◌, List, [], ◌∷◌, ◌++◌, length, refl}
use Rattle.std.proofs.Common.{ap, ◌∙◌, arith}
use Rattle.std.proofs.lemmas.List.{length_push}
use Rattle.model_symbols.specs.Symbols.{Table}
use Rattle.model_text.specs.Parts.{Part}
use Rattle.acl_heap.specs.Objects.{Objects}
use Rattle.acl_read_build.specs.declared.Slot.{Slot}
use Rattle.acl_read_build.specs.Slots.{part_at, parts_onto, parts_at, IsWholeSlot, AreWholeSlots, Popped, Pushed}

module _ (t : Table) (h : Objects) where
  parts_onto-push : (ps : List Part) (ss : List Slot) (s : Slot) → parts_onto t h ps (ss ++ s ∷ []) ≡ part_at t h s ∷ parts_onto t h ps ss
  parts_onto-push ps [] s = refl
  parts_onto-push ps (r ∷ ss) s = parts_onto-push (part_at t h r ∷ ps) ss s

  AreWholeSlots-push : (ss : List Slot) (s : Slot) → AreWholeSlots t h ss → IsWholeSlot t h s → AreWholeSlots t h (ss ++ s ∷ [])
  AreWholeSlots-push [] s a i = (i, tt)
  AreWholeSlots-push (r ∷ ss) s a i = (a.0, AreWholeSlots-push ss s a.1 i)

  AreWholeSlots-pop : (ss : List Slot) (s : Slot) → AreWholeSlots t h (ss ++ s ∷ []) → AreWholeSlots t h ss × IsWholeSlot t h s
  AreWholeSlots-pop [] s a = (tt, a.0)
  AreWholeSlots-pop (r ∷ ss) s a = let q = AreWholeSlots-pop ss s a.1 in ((a.0, q.0), q.1)

  pub popped : (all ss : List Slot) (s : Slot) → all ≡ ss ++ s ∷ [] → AreWholeSlots t h all → Popped t h all ss s
  popped all ss s e a =
      let r = AreWholeSlots-pop ss s (rw e at a) in
      record { parts = ap (parts_at t h) e ∙ parts_onto-push [] ss s; rest = r.0; top = r.1; fewer = omega (arith, ap length e, length_push ss s) }

  pub put_on : (all ss : List Slot) (s : Slot) → all ≡ ss ++ s ∷ [] → AreWholeSlots t h ss → IsWholeSlot t h s → Pushed t h ss all s
  put_on all ss s e a i = record { parts = ap (parts_at t h) e ∙ parts_onto-push [] ss s; slots = rw e (AreWholeSlots-push ss s a i) }
