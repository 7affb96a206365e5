-- Known symbols of what an expansion makes, words that are whole, and faults that are told.
use Rattle.std.specs.Prelude.{◌≡◌, ℕ, ◌≤◌, List, [], ◌∷◌, length, map, Option, Some, None, option_and_then}
use Rattle.std.proofs.Common.{sym, subst, arith}
use Rattle.model_objects.specs.Object.{Object, Integer, Symbol, Text, Pair}
use Rattle.model_objects.specs.Named.{Knows}
use Rattle.model_symbols.specs.Symbols.{QualifiedName, Table}
use Rattle.model_prims.specs.Kinds.{by_number}
use Rattle.model_terms.specs.Cores.{Core}
use Rattle.model_terms.specs.Worlds.{World, MacroFormals}
use Rattle.model_eval.specs.Variables as variables
use Rattle.model_eval.specs.Variables.{single}
use Rattle.model_expansion.specs.Forms.{elements}
use Rattle.model_expansion.specs.Faults.{BadShape}
use Rattle.model_expansion.specs.Layers.{MacroRow, Found, Made, Again, Stays, made_of}
use Rattle.model_expansion.specs.Expansion.{Setting, Progress, Expanded, Makes, Fails, Look, Stands, Use, UserUse, look_at, built, macro_values}
use Rattle.model_expansion_forms.specs.Rows.{AllKnown}
use Rattle.model_expansion_parts.specs.Known.{KnowsRow, KnowsFound, KnowsMade, KnowsFormals, KnowsLook, KnowsSupplies}
use Rattle.model_expansion_parts.proofs.LawLemmas.{parts_are_known}
use Rattle.model_expansion_parts.proofs.KnownLemmas.{supplies_later}
use Rattle.model_expansion_parts.proofs.KnownRowLemmas.{KnowsIfAny, made_known}
use Rattle.model_expansion_parts.proofs.KnownPlaceLemmas.{AllKnownIfAny, elements_known}
use Rattle.acl_base.specs.declared.Word.{Word}
use Rattle.acl_heap.specs.Objects.{Objects, object_of, Denotes}
use Rattle.acl_forms.specs.Forms.{Grown, AreWhole}
use Rattle.acl_terms.specs.declared.fault.ExpandFault.TheVariants as fault
use Rattle.acl_terms.specs.declared.outcome.Shown.{Shown}
use Rattle.acl_terms.specs.declared.outcome.Shown.TheVariants as shown
use Rattle.acl_terms.specs.declared.outcome.Stop.{Stop}
use Rattle.acl_engine.specs.declared.outcome.Outcome.{Outcome}
use Rattle.acl_terms.specs.Growth.{seen_definitions-later}
use Rattle.acl_worlds.specs.Contents.{Content, seen_world, WorldLies}
use Rattle.acl_layers.specs.Lists.{items_along}
use Rattle.acl_actuals.specs.Values.{words_at, words_reach}
use Rattle.acl_engine.specs.Outcomes.{all_shown, shown_words, ended_words, outcome_words}
use Rattle.acl_expand.specs.declared.progress.Refused.{Refused}
use Rattle.acl_expand.specs.Refusals.{IsToldFault, IsTold}
use Rattle.acl_expand.specs.Looks.{setting_at}

pub memory_told : (r : Refused) → r.fault ≡ fault.Memory → IsTold r
memory_told r e = subst IsToldFault (sym e) tt

-- ---- as heap and symbols grow

pub supplies_there : {t t' : Table} {h h' : Objects} → Grown t t' h h' → (w : Content) → WorldLies h w → KnowsSupplies (length t.symbols) (seen_world h w) → KnowsSupplies (length t'.symbols) (seen_world h' w)
supplies_there {t} {t'} {h} {h'} g w l k =
    subst (λ (v : World). KnowsSupplies (length t'.symbols) v) (sym (seen_definitions-later g.heap w.definitions l)) (supplies_later (length t.symbols) (length t'.symbols) g.table.longer (seen_world h w) k)

-- ---- what evaluations give

only_known : (t : Table) (h : Objects) (vs : List Shown) → 2 ≤ length t.symbols → AreWhole t h (shown_words vs) → Knows (length t.symbols) (variables.object_of by_number (single by_number (all_shown h vs)))
only_known t h [] two k = omega (arith, two)
only_known t h (shown.Value w ∷ vs) two k = k.0.known
only_known t h (shown.Object s ∷ vs) two k = omega (arith, two)

pub value_known : (t : Table) (h : Objects) (o : Outcome) (w : Word) → o.stop ≡ None → 2 ≤ length t.symbols → AreWhole t h (outcome_words o)
    → Denotes h w (variables.object_of by_number (single by_number (all_shown h o.values.items))) → Knows (length t.symbols) (object_of h w)
value_known t h o w e two k d =
    subst (λ (x : Object ℕ). Knows (length t.symbols) x) (sym d.is) (only_known t h o.values.items two (subst (λ (s : Option Stop). AreWhole t h (ended_words o s)) e k))

-- ---- actuals

along_known : (n : ℕ) (d : Object ℕ) → Knows n d → AllKnown n (items_along d)
along_known n (Integer m) k = tt
along_known n (Symbol s) k = tt
along_known n (Text bytes) k = tt
along_known n (Pair a d) k = (k.0, along_known n d k.1)

words_whole : (t : Table) (h : Objects) (ws : List Word) → words_reach ws ≤ length h → AllKnown (length t.symbols) (words_at h ws) → AreWhole t h ws
words_whole t h [] l k = tt
words_whole t h (w ∷ ws) l k = (record { lies = omega (arith, l); known = k.0 }, words_whole t h ws (omega (arith, l)) k.1)

pub actuals_whole : (t : Table) (h : Objects) (formals : MacroFormals) (d : Object ℕ) (ws : List Word) → 2 ≤ length t.symbols → KnowsFormals (length t.symbols) formals → Knows (length t.symbols) d
    → macro_values t.symbols formals (items_along d) ≡ Some (words_at h ws) → words_reach ws ≤ length h → AreWhole t h ws
actuals_whole t h formals d ws two f k e l =
    words_whole t h ws l (parts_are_known.values (length t.symbols) t.symbols formals (items_along d) (words_at h ws) two f (along_known (length t.symbols) d k) e)

-- ---- what rows make

module _ (n : ℕ) where
  abbrev KnowsExpanded : Expanded Made → Type 0
  KnowsExpanded (Makes m q) = KnowsMade n m
  KnowsExpanded (Fails f q) = Unit {0}

  -- a use of a built-in macro is of this shape
  abbrev shaped : ℕ → Progress → Option Made → Expanded Made
  shaped s p None = Fails (BadShape s) p
  shaped s p (Some m) = Makes m p

  shaped_known : (s : ℕ) (p : Progress) (m : Option Made) → KnowsIfAny n m → KnowsExpanded (shaped s p m)
  shaped_known s p None k = tt
  shaped_known s p (Some m) k = k

  elements_made : (symbols : List QualifiedName) (row : MacroRow) → 2 ≤ n → KnowsRow n row → (os : Option (List (Object ℕ))) → AllKnownIfAny n os → KnowsIfAny n (option_and_then (made_of symbols row) os)
  elements_made symbols row two g None k = tt
  elements_made symbols row two g (Some os) k = made_known n symbols two row os g k

  pub built_known : (x : Setting) (s : ℕ) (row : MacroRow) (d : Object ℕ) (p q : Progress) (m : Made) → 2 ≤ n → KnowsRow n row → Knows n d → built x s row d p ≡ Makes m q → KnowsMade n m
  built_known x s row d p q m two g k e =
      subst (λ (o : Expanded Made). KnowsExpanded o) e (shaped_known s p (option_and_then (made_of p.symbols row) (elements d)) (elements_made p.symbols row two g (elements d) (elements_known n d k)))

  pub made_again_known : (w : World) (symbols : List QualifiedName) (row : MacroRow) (os : List (Object ℕ)) (o : Object ℕ) → KnowsSupplies n w → KnowsRow n row → AllKnown n os
      → made_of symbols row os ≡ Some (Again o) → Knows n o
  made_again_known w symbols row os o s g k e = parts_are_known.made n symbols row os (Again o) s.enough g k e

  pub made_stays_known : (w : World) (symbols : List QualifiedName) (row : MacroRow) (os : List (Object ℕ)) (f : Found) → KnowsSupplies n w → KnowsRow n row → AllKnown n os
      → made_of symbols row os ≡ Some (Stays f) → KnowsFound n f
  made_stays_known w symbols row os f s g k e = parts_are_known.made n symbols row os (Stays f) s.enough g k e

-- ---- what is seen at a place

module _ (h : Objects) (w : Content) (t : Table) (steps depth : ℕ) (o : Object ℕ) where
  seen_known : (l : Look) → KnowsSupplies (length t.symbols) (seen_world h w) → Knows (length t.symbols) o → look_at (setting_at h w t steps depth) t.symbols o ≡ l → KnowsLook (length t.symbols) l
  seen_known l s k e = subst (λ (x : Look). KnowsLook (length t.symbols) x) e (parts_are_known.look (length t.symbols) (setting_at h w t steps depth) t.symbols o s k)

  pub stands_known : (f : Found) → KnowsSupplies (length t.symbols) (seen_world h w) → Knows (length t.symbols) o → look_at (setting_at h w t steps depth) t.symbols o ≡ Stands f → KnowsFound (length t.symbols) f
  stands_known f s k e = seen_known (Stands f) s k e

  pub use_row_known : (x : ℕ) (row : MacroRow) (d : Object ℕ) → KnowsSupplies (length t.symbols) (seen_world h w) → Knows (length t.symbols) o → look_at (setting_at h w t steps depth) t.symbols o ≡ Use x row d → KnowsRow (length t.symbols) row
  use_row_known x row d s k e = (seen_known (Use x row d) s k e).0

  pub use_known : (x : ℕ) (row : MacroRow) (d : Object ℕ) → KnowsSupplies (length t.symbols) (seen_world h w) → Knows (length t.symbols) o → look_at (setting_at h w t steps depth) t.symbols o ≡ Use x row d → Knows (length t.symbols) d
  use_known x row d s k e = (seen_known (Use x row d) s k e).1

  pub defaults_known : (x : ℕ) (formals : MacroFormals) (body : Core) (d : Object ℕ) → KnowsSupplies (length t.symbols) (seen_world h w) → Knows (length t.symbols) o
      → look_at (setting_at h w t steps depth) t.symbols o ≡ UserUse x formals body d → KnowsFormals (length t.symbols) formals
  defaults_known x formals body d s k e = (seen_known (UserUse x formals body d) s k e).0

  pub user_known : (x : ℕ) (formals : MacroFormals) (body : Core) (d : Object ℕ) → KnowsSupplies (length t.symbols) (seen_world h w) → Knows (length t.symbols) o
      → look_at (setting_at h w t steps depth) t.symbols o ≡ UserUse x formals body d → Knows (length t.symbols) d
  user_known x formals body d s k e = (seen_known (UserUse x formals body d) s k e).1
