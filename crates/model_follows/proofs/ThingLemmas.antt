-- Values of C as the logic has them, as symbols are added.
use Rattle.std.proofs.Common.{◌≡◌, ℕ, ◌<◌, ◌≤◌, List, [], ◌∷◌, length, refl, sym, ap, subst, arith}
use Rattle.std.proofs.lemmas.Option.{slice_get_within}
use Rattle.model_objects.specs.Object.{Object}
use Rattle.model_objects.specs.Named.{Symbols, Knows}
use Rattle.model_objects.proofs.NamedLemmas.{named-agrees, Symbols-weaker}
use Rattle.model_symbols.specs.Symbols.{QualifiedName, Table, symbol_at, form_of}
use Rattle.model_symbols.specs.Growth.{Extends}
use Rattle.model_symbols.specs.Opening.{truth, nil}
use Rattle.model_symbols.proofs.NameLemmas.{symbol_at-is, symbol-at}
use Rattle.model_prims.specs.Kinds.{by_number}
use Rattle.model_prims.specs.Laws.{NamesTruth}
use Rattle.model_lists.specs.Lists.{StobjList, Value, Pairs, End, Item, as_object}
use Rattle.model_terms.specs.Worlds.{World, Out, Ordinary, Scope}
use Rattle.model_terms.specs.Worlds as worlds
use Rattle.model_eval.specs.Outcomes.{Shown, Plain, StobjNamed}
use Rattle.model_logic.specs.Logic.{Thing}
use Rattle.model_accepted.specs.StobjScopes.{IsStobj, AreOutputs}
use Rattle.model_in_place.specs.Calls.{AreArguments}
use Rattle.model_follows.specs.FollowedWorlds.{PairSymbols, ListSymbols, KnowsList}
use Rattle.model_follows.specs.Follows.{thing_of_list, KnowsShown, KnowsAll}
use Rattle.model_follows.proofs.HeldThings.{Held, held, all_held}

-- ---- the ordinary object of a list

pub pairs_known : (P : ℕ → Type 0) (ps : List (Object ℕ × Object ℕ)) → P nil → PairSymbols P ps → Symbols P (as_object by_number (Pairs ps))
pairs_known P [] n h = n
pairs_known P (p ∷ ps) n h = ((h.0, h.1), pairs_known P ps n h.2)

pub list_known : (P : ℕ → Type 0) (l : StobjList ℕ) → P nil → ListSymbols P l → Symbols P (as_object by_number l)
list_known P (Value o) n h = h
list_known P (Pairs ps) n h = pairs_known P ps n h
list_known P End n h = n
list_known P (Item first rest) n h = (list_known P first n h.0, list_known P rest n h.1)

pub pairs_weaker : {S : Type 0} (P Q : S → Type 0) → ((s : S) → P s → Q s) → (ps : List (Object S × Object S)) → PairSymbols P ps → PairSymbols Q ps
pairs_weaker P Q f [] h = tt
pairs_weaker P Q f (p ∷ ps) h = (Symbols-weaker P Q f p.0 h.0, Symbols-weaker P Q f p.1 h.1, pairs_weaker P Q f ps h.2)

pub list_weaker : {S : Type 0} (P Q : S → Type 0) → ((s : S) → P s → Q s) → (l : StobjList S) → ListSymbols P l → ListSymbols Q l
list_weaker P Q f (Value o) h = Symbols-weaker P Q f o h
list_weaker P Q f (Pairs ps) h = pairs_weaker P Q f ps h
list_weaker P Q f End h = tt
list_weaker P Q f (Item first rest) h = (list_weaker P Q f first h.0, list_weaker P Q f rest h.1)

below_more : (m n : ℕ) → m ≤ n → (s : ℕ) → s < m → s < n
below_more m n l s i = omega arith

pub knows_more : (m n : ℕ) (o : Object ℕ) → m ≤ n → Knows m o → Knows n o
knows_more m n o l h = Symbols-weaker (λ s. s < m) (λ s. s < n) (below_more m n l) o h

pub knows_list_more : (m n : ℕ) (l : StobjList ℕ) → m ≤ n → KnowsList m l → KnowsList n l
knows_list_more m n l i h = list_weaker (λ s. s < m) (λ s. s < n) (below_more m n i) l h

pub knows_nil : (t : Table) → NamesTruth t → nil < length t.symbols
knows_nil t n = slice_get_within t.symbols nil _ n.at_nil

pub knows_truth : (t : Table) → NamesTruth t → truth < length t.symbols
knows_truth t n = slice_get_within t.symbols truth _ n.at_truth

-- ---- values that are stobjs of a scope

abbrev pub IsIn : Scope → Shown ℕ → Type 0
IsIn scope (Plain o) = Unit {0}
IsIn scope (StobjNamed x) = IsStobj scope x

abbrev pub AllIn : Scope → List (Shown ℕ) → Type 0
AllIn scope [] = Unit {0}
AllIn scope (v ∷ vs) = IsIn scope v × AllIn scope vs

pub outputs_in : (scope : Scope) (kinds : List Out) (vs : List (Shown ℕ)) → AreOutputs scope kinds vs → AllIn scope vs
outputs_in scope [] [] a = tt
outputs_in scope [] (v ∷ vs) a = absurd a
outputs_in scope (k ∷ ks) [] a = absurd a
outputs_in scope (Ordinary ∷ ks) (Plain o ∷ vs) a = (tt, outputs_in scope ks vs a.1)
outputs_in scope (Ordinary ∷ ks) (StobjNamed y ∷ vs) a = absurd a.0
outputs_in scope (worlds.Stobj x ∷ ks) (Plain o ∷ vs) a = absurd a.0
outputs_in scope (worlds.Stobj x ∷ ks) (StobjNamed y ∷ vs) a = (subst (IsStobj scope) (sym a.0.0) a.0.1, outputs_in scope ks vs a.1)

pub arguments_in : (w : World) (scope : Scope) (kinds : List Out) (vs : List (Shown ℕ)) → AreArguments w scope kinds vs → AllIn scope vs
arguments_in w scope [] [] a = tt
arguments_in w scope [] (v ∷ vs) a = absurd a
arguments_in w scope (k ∷ ks) [] a = absurd a
arguments_in w scope (Ordinary ∷ ks) (Plain o ∷ vs) a = (tt, arguments_in w scope ks vs a.1)
arguments_in w scope (Ordinary ∷ ks) (StobjNamed y ∷ vs) a = absurd a.0
arguments_in w scope (worlds.Stobj x ∷ ks) (Plain o ∷ vs) a = absurd a.0
arguments_in w scope (worlds.Stobj x ∷ ks) (StobjNamed y ∷ vs) a = (a.0.0, arguments_in w scope ks vs a.1)

-- the lists of the stobjs among them are the same
pub same_held : (symbols : List QualifiedName) (scope : Scope) (vs : List (Shown ℕ)) (before after : Held) → AllIn scope vs → ((x : ℕ) → IsStobj scope x → after x ≡ before x)
    → all_held symbols after vs ≡ all_held symbols before vs
same_held symbols scope [] before after a k = refl
same_held symbols scope (Plain o ∷ vs) before after a k = ap (λ (os : List Thing). form_of symbols o ∷ os) (same_held symbols scope vs before after a.1 k)
same_held symbols scope (StobjNamed x ∷ vs) before after a k = rw (k x a.0, same_held symbols scope vs before after a.1 k) refl

-- ---- symbols that are added

module _ (old new : Table) (grown : Extends old new) where
  symbol_stays : (s : ℕ) → s < length old.symbols → symbol_at new.symbols s ≡ symbol_at old.symbols s
  symbol_stays s l = symbol_at-is new.symbols s (symbol_at old.symbols s) (grown.same s (symbol_at old.symbols s) (symbol-at old.symbols s l))

  pub form_stays : (o : Object ℕ) → Knows (length old.symbols) o → form_of new.symbols o ≡ form_of old.symbols o
  form_stays o h = named-agrees (symbol_at new.symbols) (symbol_at old.symbols) o (Symbols-weaker (λ s. s < length old.symbols) (λ s. symbol_at new.symbols s ≡ symbol_at old.symbols s) symbol_stays o h)

  pub knows_stays : (o : Object ℕ) → Knows (length old.symbols) o → Knows (length new.symbols) o
  knows_stays o h = knows_more (length old.symbols) (length new.symbols) o grown.longer h

  pub knows_list_stays : (l : StobjList ℕ) → KnowsList (length old.symbols) l → KnowsList (length new.symbols) l
  knows_list_stays l h = knows_list_more (length old.symbols) (length new.symbols) l grown.longer h

  pub list_stays : (l : StobjList ℕ) → nil < length old.symbols → KnowsList (length old.symbols) l → thing_of_list new.symbols l ≡ thing_of_list old.symbols l
  list_stays l n h = form_stays (as_object by_number l) (list_known (λ s. s < length old.symbols) l n h)

  pub shown_stays : (v : Shown ℕ) → KnowsShown (length old.symbols) v → KnowsShown (length new.symbols) v
  shown_stays (Plain o) h = knows_stays o h
  shown_stays (StobjNamed x) h = tt

  pub all_stay : (vs : List (Shown ℕ)) → KnowsAll (length old.symbols) vs → KnowsAll (length new.symbols) vs
  all_stay [] h = tt
  all_stay (v ∷ vs) h = (shown_stays v h.0, all_stay vs h.1)

  -- a value whose stobj, where it is one, has the list that it had
  pub thing_stays : (v : Shown ℕ) (before after : Held) → KnowsShown (length old.symbols) v → ((x : ℕ) → v ≡ StobjNamed x → after x ≡ before x)
      → held new.symbols after v ≡ held old.symbols before v
  thing_stays (Plain o) before after h k = form_stays o h
  thing_stays (StobjNamed x) before after h k = k x refl

  pub things_stay : (scope : Scope) (vs : List (Shown ℕ)) (before after : Held) → AllIn scope vs → KnowsAll (length old.symbols) vs → ((x : ℕ) → IsStobj scope x → after x ≡ before x)
      → all_held new.symbols after vs ≡ all_held old.symbols before vs
  things_stay scope [] before after a h k = refl
  things_stay scope (v ∷ vs) before after a h k =
      let first : held new.symbols after v ≡ held old.symbols before v = thing_stays v before after h.0 (λ x e. k x (stobj_in x e a.0)) in
      rw (first, things_stay scope vs before after a.1 h.1 k) refl
    where
      stobj_in : (x : ℕ) → v ≡ StobjNamed x → IsIn scope v → IsStobj scope x
      stobj_in x e i = subst (IsIn scope) e i
