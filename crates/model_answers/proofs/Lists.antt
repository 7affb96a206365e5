-- Lists of stobjs of both evaluations, one after another, as they are read, written, handed over and handed back.
use Rattle.std.proofs.Common.{◌≡◌, ℕ, ◌<◌, List, [], ◌∷◌, ◌++◌, map, length, Bool, true, false, Option, Some, None, refl, sym, ap, ◌∙◌, subst, suc, zero}
use Rattle.std.specs.Prelude.{◌||◌, nat_eq, drop, if◌then◌else◌}
use Rattle.model_terms.specs.Worlds.{AbstractDescriptor, World}
use Rattle.model_answers.specs.Beside.{AlikeBy, AreBeside, GoesWith}
use Rattle.model_lists.specs.Lists.{End, Item, Pairs, StobjList, Value, as_object}
use Rattle.model_symbols.specs.Growth.{Extends}
use Rattle.model_follows.proofs.HeldThings.{Ground, IsViewed, ground_book}
use Rattle.model_follows.specs.FollowedWorlds.{KnowsList, PairSymbols}
use Rattle.model_objects.specs.Object.{Object}
use Rattle.model_eval.specs.Outcomes.{Plain, Shown, StobjNamed, Stobjs}
use Rattle.model_symbols.specs.Symbols.{QualifiedName, Table, form_of}
use Rattle.model_logic.specs.Logic.{Thing}
use Rattle.model_prims.specs.Kinds.{by_name, by_number}
use Rattle.std.proofs.lemmas.Bool.{eqb-true}
use Rattle.model_accepted.proofs.AcceptLemmas.{false_true}
use Rattle.model_follows.proofs.ThingLemmas.{form_stays, knows_list_stays, list_stays}
use Rattle.model_eval.specs.Variables.{handed_back, inner_stobjs, list_of, with_list}
use Rattle.model_eval_laws.specs.Scope.{is_among, names}
use Rattle.model_abstract.specs.Corresponding.{named_list}
use Rattle.model_symbols.specs.Opening.{nil}
use Rattle.model_eval_laws.proofs.Lists.{same_number}
use Rattle.model_follows.specs.Follows.{table_of}
use Rattle.model_abstract_books.specs.Answers.{shown_named}
use Rattle.model_lists.specs.LiveLists.{HasFields}
use Rattle.model_lists.specs.Layouts.{Layout, recognizes}
use Rattle.model_accepted.specs.Threaded.{layout_of}

-- ---- as symbols are added

module _ (old new : Table) (grown : Extends old new) where
  pairs_stay : (ps : List (Object ℕ × Object ℕ)) → PairSymbols (λ s. s < length old.symbols) ps
      → map {B = Thing × Thing} (λ (p : Object ℕ × Object ℕ). (form_of new.symbols p.0, form_of new.symbols p.1)) ps ≡ map (λ (p : Object ℕ × Object ℕ). (form_of old.symbols p.0, form_of old.symbols p.1)) ps
  pairs_stay [] k = refl
  pairs_stay (p ∷ ps) k = rw (form_stays old new grown p.0 k.0, form_stays old new grown p.1 k.1, pairs_stay ps k.2) refl

  pub named_stays : (l : StobjList ℕ) → KnowsList (length old.symbols) l → named_list new.symbols l ≡ named_list old.symbols l
  named_stays (Value o) k = ap (λ (q : Thing). Value q) (form_stays old new grown o k)
  named_stays (Pairs ps) k = ap (λ (q : List (Thing × Thing)). Pairs q) (pairs_stay ps k)
  named_stays End k = refl
  named_stays (Item first rest) k = rw (named_stays first k.0, named_stays rest k.1) refl

module _ (w : World) (g : Ground) where
  pub goes_stays : (old new : List QualifiedName) → Extends (table_of g.table.packages old) (table_of g.table.packages new) → nil < length old
      → (x : ℕ) (c : StobjList ℕ) (a : StobjList QualifiedName) → GoesWith w g old x c a → GoesWith w g new x c a
  goes_stays old new grown nils x c a h = record {
    fits = h.fits;
    recognized = h.recognized;
    known = knows_list_stays (table_of g.table.packages old) (table_of g.table.packages new) grown c h.known;
    alike = go (g.view x) h.alike;
  }
    where
      go : (v : Option AbstractDescriptor) → AlikeBy (ground_book w g) v old c a → AlikeBy (ground_book w g) v new c a
      go None e = named_stays (table_of g.table.packages old) (table_of g.table.packages new) grown c h.known ∙ e
      go (Some d) e =
          subst (λ (t : Thing). IsViewed (ground_book w g) d t (as_object by_name a))
          (sym (list_stays (table_of g.table.packages old) (table_of g.table.packages new) grown c nils h.known)) e

  pub beside_stays : (old new : List QualifiedName) → Extends (table_of g.table.packages old) (table_of g.table.packages new) → nil < length old
      → (cs : Stobjs ℕ) (ms : Stobjs QualifiedName) → AreBeside w g old cs ms → AreBeside w g new cs ms
  beside_stays old new grown nils [] [] h = tt
  beside_stays old new grown nils [] (m ∷ ms) h = absurd h
  beside_stays old new grown nils (c ∷ cs) [] h = absurd h
  beside_stays old new grown nils (c ∷ cs) (m ∷ ms) h = (h.0, goes_stays old new grown nils c.0 c.1 m.1 h.1, beside_stays old new grown nils cs ms h.2)

  -- lists that go with these later, whose symbols were known before, went with them before
  pub beside_earlier : (old new : List QualifiedName) → Extends (table_of g.table.packages old) (table_of g.table.packages new) → nil < length old
      → (cs : Stobjs ℕ) (ms ns : Stobjs QualifiedName) → AreBeside w g old cs ms → AreBeside w g new cs ns → AreBeside w g old cs ns
  beside_earlier old new grown nils [] [] [] h i = tt
  beside_earlier old new grown nils [] [] (n ∷ ns) h i = absurd i
  beside_earlier old new grown nils [] (m ∷ ms) ns h i = absurd h
  beside_earlier old new grown nils (c ∷ cs) [] ns h i = absurd h
  beside_earlier old new grown nils (c ∷ cs) (m ∷ ms) [] h i = absurd i
  beside_earlier old new grown nils (c ∷ cs) (m ∷ ms) (n ∷ ns) h i = (i.0, record { fits = h.1.fits; recognized = h.1.recognized; known = h.1.known; alike = go (g.view c.0) i.1.alike }, beside_earlier old new grown nils cs ms ns h.2 i.2)
    where
      go : (v : Option AbstractDescriptor) → AlikeBy (ground_book w g) v new c.1 n.1 → AlikeBy (ground_book w g) v old c.1 n.1
      go None e = sym (named_stays (table_of g.table.packages old) (table_of g.table.packages new) grown c.1 h.1.known) ∙ e
      go (Some d) e =
          subst (λ (t : Thing). IsViewed (ground_book w g) d t (as_object by_name n.1))
          (list_stays (table_of g.table.packages old) (table_of g.table.packages new) grown c.1 nils h.1.known) e

  -- of a stobj that is seen alike
  pub goes_alike : (sy : List QualifiedName) (x y : ℕ) (c : StobjList ℕ) (a : StobjList QualifiedName) → g.view x ≡ g.view y → layout_of w x ≡ layout_of w y → GoesWith w g sy x c a → GoesWith w g sy y c a
  goes_alike sy x y c a e l h = record {
    fits = subst (λ (m : Layout ℕ). HasFields m c) l h.fits;
    recognized = subst (λ (m : Layout ℕ). recognizes by_number m (as_object by_number c) ≡ true) l h.recognized;
    known = h.known;
    alike = subst (λ (v : Option AbstractDescriptor). AlikeBy (ground_book w g) v sy c a) e h.alike;
  }

  module _ (sy : List QualifiedName) where
    pub beside_names : (cs : Stobjs ℕ) (ms : Stobjs QualifiedName) → AreBeside w g sy cs ms → names ms ≡ names cs
    beside_names [] [] h = refl
    beside_names [] (m ∷ ms) h = absurd h
    beside_names (c ∷ cs) [] h = absurd h
    beside_names (c ∷ cs) (m ∷ ms) h = rw (sym h.0, beside_names cs ms h.2) refl

    pub beside_at : (cs : Stobjs ℕ) (ms : Stobjs QualifiedName) (x : ℕ) → AreBeside w g sy cs ms → is_among x (names cs) ≡ true → GoesWith w g sy x (list_of cs x) (list_of ms x)
    beside_at [] [] x h i = false_true i
    beside_at [] (m ∷ ms) x h i = absurd h
    beside_at (c ∷ cs) [] x h i = absurd h
    beside_at (c ∷ cs) (m ∷ ms) x h i =
        subst (λ (z : ℕ). GoesWith w g sy x (if nat_eq x c.0 then c.1 else list_of cs x) (if nat_eq x z then m.1 else list_of ms x)) h.0 (go (nat_eq x c.0) refl (beside_at cs ms x h.2) i)
      where
        go : (b : Bool) → nat_eq x c.0 ≡ b → (is_among x (names cs) ≡ true → GoesWith w g sy x (list_of cs x) (list_of ms x)) → (b || is_among x (names cs)) ≡ true → GoesWith w g sy x (if b then c.1 else list_of cs x) (if b then m.1 else list_of ms x)
        go true e later j = subst (λ (z : ℕ). GoesWith w g sy z c.1 m.1) (sym (eqb-true x c.0 e)) h.1
        go false e later j = later j

    pub beside_with : (cs : Stobjs ℕ) (ms : Stobjs QualifiedName) (x : ℕ) (c : StobjList ℕ) (a : StobjList QualifiedName) → AreBeside w g sy cs ms → GoesWith w g sy x c a
        → AreBeside w g sy (with_list x c cs) (with_list x a ms)
    beside_with [] [] x c a h i = tt
    beside_with [] (m ∷ ms) x c a h i = absurd h
    beside_with (d ∷ cs) [] x c a h i = absurd h
    beside_with (d ∷ cs) (m ∷ ms) x c a h i =
        subst (λ (z : ℕ). AreBeside w g sy (if nat_eq x d.0 then (d.0, c) ∷ cs else d ∷ with_list x c cs) (if nat_eq x z then (m.0, a) ∷ ms else m ∷ with_list x a ms)) h.0 (go (nat_eq x d.0) refl (beside_with cs ms x c a h.2 i))
      where
        go : (b : Bool) → nat_eq x d.0 ≡ b → AreBeside w g sy (with_list x c cs) (with_list x a ms) → AreBeside w g sy (if b then (d.0, c) ∷ cs else d ∷ with_list x c cs) (if b then (m.0, a) ∷ ms else m ∷ with_list x a ms)
        go true e later = (h.0, subst (λ (z : ℕ). GoesWith w g sy z c a) (eqb-true x d.0 e) i, h.2)
        go false e later = (h.0, h.1, later)

    pub beside_append : (cs : Stobjs ℕ) (ms : Stobjs QualifiedName) (ds : Stobjs ℕ) (ns : Stobjs QualifiedName) → AreBeside w g sy cs ms → AreBeside w g sy ds ns → AreBeside w g sy (cs ++ ds) (ms ++ ns)
    beside_append [] [] ds ns h i = i
    beside_append [] (m ∷ ms) ds ns h i = absurd h
    beside_append (c ∷ cs) [] ds ns h i = absurd h
    beside_append (c ∷ cs) (m ∷ ms) ds ns h i = (h.0, h.1, beside_append cs ms ds ns h.2 i)

    pub beside_drop : (n : ℕ) (cs : Stobjs ℕ) (ms : Stobjs QualifiedName) → AreBeside w g sy cs ms → AreBeside w g sy (drop n cs) (drop n ms)
    beside_drop zero cs ms h = h
    beside_drop (suc n) [] [] h = tt
    beside_drop (suc n) [] (m ∷ ms) h = absurd h
    beside_drop (suc n) (c ∷ cs) [] h = absurd h
    beside_drop (suc n) (c ∷ cs) (m ∷ ms) h = beside_drop n cs ms h.2

    -- ---- calls

    -- each stobj among the actuals is there, and is seen as its formal
    abbrev pub ArePassed : List ℕ → List ℕ → List (Shown ℕ) → Type 0
    ArePassed there [] vs = Unit {0}
    ArePassed there (x ∷ xs) [] = Unit {0}
    ArePassed there (x ∷ xs) (Plain o ∷ vs) = ArePassed there xs vs
    ArePassed there (x ∷ xs) (StobjNamed y ∷ vs) = (is_among y there ≡ true) × (g.view y ≡ g.view x) × (layout_of w y ≡ layout_of w x) × ArePassed there xs vs

    pub beside_inner : (old : List QualifiedName) (xs : List ℕ) (vs : List (Shown ℕ)) (cs : Stobjs ℕ) (ms : Stobjs QualifiedName) → ArePassed (names cs) xs vs → AreBeside w g sy cs ms
        → AreBeside w g sy (inner_stobjs xs vs cs) (inner_stobjs xs (map (shown_named old) vs) ms)
    beside_inner old [] vs cs ms p h = tt
    beside_inner old (x ∷ xs) [] cs ms p h = tt
    beside_inner old (x ∷ xs) (Plain o ∷ vs) cs ms p h = beside_inner old xs vs cs ms p h
    beside_inner old (x ∷ xs) (StobjNamed y ∷ vs) cs ms p h =
        (refl, goes_alike sy y x (list_of cs y) (list_of ms y) p.1 p.2 (beside_at cs ms y h p.0), beside_inner old xs vs cs ms p.3 h)

    -- each formal of a stobj is among these
    abbrev pub AreFormalsOf : List ℕ → List ℕ → List (Shown ℕ) → Type 0
    AreFormalsOf inside [] vs = Unit {0}
    AreFormalsOf inside (x ∷ xs) [] = Unit {0}
    AreFormalsOf inside (x ∷ xs) (Plain o ∷ vs) = AreFormalsOf inside xs vs
    AreFormalsOf inside (x ∷ xs) (StobjNamed y ∷ vs) = (is_among x inside ≡ true) × AreFormalsOf inside xs vs

    pub beside_back : (old : List QualifiedName) (there xs : List ℕ) (vs : List (Shown ℕ)) (ds : Stobjs ℕ) (ns : Stobjs QualifiedName) (cs : Stobjs ℕ) (ms : Stobjs QualifiedName)
        → ArePassed there xs vs → AreFormalsOf (names ds) xs vs → AreBeside w g sy ds ns → AreBeside w g sy cs ms
        → AreBeside w g sy (handed_back xs vs ds cs) (handed_back xs (map (shown_named old) vs) ns ms)
    beside_back old there [] vs ds ns cs ms p f i h = h
    beside_back old there (x ∷ xs) [] ds ns cs ms p f i h = h
    beside_back old there (x ∷ xs) (Plain o ∷ vs) ds ns cs ms p f i h = beside_back old there xs vs ds ns cs ms p f i h
    beside_back old there (x ∷ xs) (StobjNamed y ∷ vs) ds ns cs ms p f i h =
        beside_back old there xs vs ds ns (with_list y (list_of ds x) cs) (with_list y (list_of ns x) ms) p.3 f.1 i
        (beside_with cs ms y (list_of ds x) (list_of ns x) h (goes_alike sy x y (list_of ds x) (list_of ns x) (sym p.1) (sym p.2) (beside_at ds ns x i f.0)))

-- the formals of stobjs are those that are handed over
formals_wider : (w : World) (g : Ground) (sy : List QualifiedName) (n : ℕ) (ns xs : List ℕ) (vs : List (Shown ℕ)) → AreFormalsOf w g sy ns xs vs → AreFormalsOf w g sy (n ∷ ns) xs vs
formals_wider w g sy n ns [] vs h = tt
formals_wider w g sy n ns (x ∷ xs) [] h = tt
formals_wider w g sy n ns (x ∷ xs) (Plain o ∷ vs) h = formals_wider w g sy n ns xs vs h
formals_wider w g sy n ns (x ∷ xs) (StobjNamed y ∷ vs) h = (rw h.0 (or_true (nat_eq x n)), formals_wider w g sy n ns xs vs h.1)
  where
    or_true : (b : Bool) → (b || true) ≡ true
    or_true true = refl
    or_true false = refl

pub formals_inside : (w : World) (g : Ground) (sy : List QualifiedName) (xs : List ℕ) (vs : List (Shown ℕ)) (os : Stobjs ℕ) → AreFormalsOf w g sy (names (inner_stobjs xs vs os)) xs vs
formals_inside w g sy [] vs os = tt
formals_inside w g sy (x ∷ xs) [] os = tt
formals_inside w g sy (x ∷ xs) (Plain o ∷ vs) os = formals_inside w g sy xs vs os
formals_inside w g sy (x ∷ xs) (StobjNamed y ∷ vs) os =
    (rw (same_number x) refl, formals_wider w g sy x (names (inner_stobjs xs vs os)) xs vs (formals_inside w g sy xs vs os))
