-- Constants whose symbols are known: in a table that grows or is cut, in a form and its parts, and as the heap grows.
use Rattle.std.specs.Prelude.{◌≡◌, ℕ, zero, suc, ◌<◌, ◌≤◌, List, [], ◌∷◌, ◌++◌, length, map, take, get_or, Option, Some, None, slice_get, refl}
use Rattle.std.specs.Option.{option_map_or}
use Rattle.std.proofs.Common.{sym, arith, subst, inl, inr}
use Rattle.model_objects.proofs.NamedLemmas.{Symbols-weaker}
use Rattle.model_symbols.proofs.Positions.{slice_get-push}
use Rattle.acl_base.specs.declared.SymId.{SymId}
use Rattle.acl_base.specs.declared.TermId.{TermId}
use Rattle.acl_base.specs.declared.Word.{Word}
use Rattle.acl_heap.specs.Objects.{Objects, Extends, object_of, reach}
use Rattle.model_objects.specs.Object.{Object}
use Rattle.model_objects.specs.Named.{Knows}
use Rattle.model_terms.specs.Cores as cores
use Rattle.acl_terms.specs.declared.form.Core.{Core}
use Rattle.acl_terms.specs.declared.form.Core.TheViews as views
use Rattle.acl_terms.specs.declared.form.Core.TheVariants as variants
use Rattle.acl_terms.specs.Forms.{most, seen_core, seen_cores, seen_bound}
use Rattle.acl_terms.specs.FormLaws.{seen_const, seen_if, seen_let, seen_mv, seen_mv_let, seen_stobj_let, seen_with_local, seen_must_be_equal, seen_call}
use Rattle.acl_code.specs.declared.term.Operand.{Operand}
use Rattle.acl_code.specs.declared.term.Operand.TheVariants as operand
use Rattle.acl_code.specs.declared.term.Child.{Child}
use Rattle.acl_code.specs.declared.term.Term.{Term}
use Rattle.acl_code.specs.declared.term.Term.TheVariants as term
use Rattle.acl_code.specs.Tables.{operand_reach, child_reach, TermLies, TermsLie}
use Rattle.acl_code.specs.Constants.{IndexHas, IndicesHave, TermHas, WordIsKnown, StandsKnown, IndexIsKnown, IndicesAreKnown, TermIsKnown, ConstantsAreKnown, FormIsKnown, FormsAreKnown}
use Rattle.acl_code.proofs.TableLemmas.{get_taken, reach_at}

-- ---- a table that grows or is cut

pub known_nothing : (n : ℕ) (h : Objects) → ConstantsAreKnown n h []
known_nothing n h = record { known = λ i x e. cc }

pub known_put : (n : ℕ) (h : Objects) (old new : List Term) (t : Term) → new ≡ old ++ t ∷ [] → TermIsKnown n h t → ConstantsAreKnown n h old → ConstantsAreKnown n h new
known_put n h old new t e k c =
    let r : ConstantsAreKnown n h (old ++ t ∷ []) = record {
      known = λ i x s. elim (slice_get-push old t i x s) [
        | inl a ↦ c.known i x a
        | inr b ↦ subst (λ v. TermIsKnown n h v) (sym b.1) k
      ];
    } in
    subst (λ ts. ConstantsAreKnown n h ts) (sym e) r

pub known_same : (n : ℕ) (h : Objects) (old new : List Term) → new ≡ old → ConstantsAreKnown n h old → ConstantsAreKnown n h new
known_same n h old new e c = subst (λ ts. ConstantsAreKnown n h ts) (sym e) c

pub known_taken : (n : ℕ) (h : Objects) (k : ℕ) (ts : List Term) → ConstantsAreKnown n h ts → ConstantsAreKnown n h (take k ts)
known_taken n h k ts c = record { known = λ i x e. c.known i x (get_taken k ts i x e) }

-- the word of a term that is a constant
pub const_known : (n : ℕ) (h : Objects) (ts : List Term) (w : Word) (t : TermId) → slice_get ts t.0 ≡ Some (term.Const w) → ConstantsAreKnown n h ts → Knows n (object_of h w)
const_known n h ts w t e c = c.known t.0 (term.Const w) e

pub indices_push : (n : ℕ) (h : Objects) (cs : List Child) (c : Child) → IndicesAreKnown n h cs → IndexIsKnown n h c.index → IndicesAreKnown n h (cs ++ c ∷ [])
indices_push n h [] c k i = (i, tt)
indices_push n h (d ∷ cs) c k i = (k.0, indices_push n h cs c k.1 i)

-- ---- words that lie in the heap

module _ (P Q : Word → Type 0) (m : ℕ) (turn : (w : Word) → reach w ≤ m → P w → Q w) where
  index_turned : (index : Option Operand) → option_map_or operand_reach index 0 ≤ m → IndexHas P index → IndexHas Q index
  index_turned None l p = tt
  index_turned (Some (operand.Slot s)) l p = tt
  index_turned (Some (operand.Const w)) l p = turn w l p

  indices_turned : (cs : List Child) → most (map child_reach cs) ≤ m → IndicesHave P cs → IndicesHave Q cs
  indices_turned [] l p = tt
  indices_turned (c ∷ cs) l p = (index_turned c.index (omega (arith, l)) p.0, indices_turned cs (omega (arith, l)) p.1)

pub term_turned : (P Q : Word → Type 0) (h : Objects) → ((w : Word) → reach w ≤ length h → P w → Q w) → (x : Term) → TermLies h x → TermHas P x → TermHas Q x
term_turned P Q h turn (term.Slot s) l p = tt
term_turned P Q h turn (term.Const w) l p = turn w l p
term_turned P Q h turn (term.Part t) l p = tt
term_turned P Q h turn (term.If at test then other) l p = tt
term_turned P Q h turn (term.Let at bound body) l p = tt
term_turned P Q h turn (term.Mv at parts) l p = tt
term_turned P Q h turn (term.MvLet at bound body) l p = tt
term_turned P Q h turn (term.StobjLet at children producer consumer) l p = indices_turned P Q (length h) turn children l p
term_turned P Q h turn (term.WithLocal at stobj producer body) l p = tt
term_turned P Q h turn (term.MustBeEqual logic) l p = tt
term_turned P Q h turn (term.Call at function actuals) l p = tt

-- what holds of each word that lies in the heap and is known holds of the constants of a table
pub constants_have : (P : Word → Type 0) (n : ℕ) (h : Objects) (ts : List Term) → ((w : Word) → reach w ≤ length h → WordIsKnown n h w → P w) → TermsLie h ts → ConstantsAreKnown n h ts
    → (i : ℕ) (x : Term) → slice_get ts i ≡ Some x → TermHas P x
constants_have P n h ts turn l c i x e = let r = reach_at ts i x e in term_turned (WordIsKnown n h) P h turn x (omega (arith, r, l.all)) (c.known i x e)

pub constants_stand : (n : ℕ) (h : Objects) (ts : List Term) → TermsLie h ts → ConstantsAreKnown n h ts → (i : ℕ) (x : Term) → slice_get ts i ≡ Some x → TermHas (StandsKnown n h) x
constants_stand n h ts = constants_have (StandsKnown n h) n h ts (λ w l k. (l, k))

pub known_later : (n : ℕ) (h h' : Objects) (ts : List Term) → Extends h h' → TermsLie h ts → ConstantsAreKnown n h ts → ConstantsAreKnown n h' ts
known_later n h h' ts e l c = record {
  known = constants_have (WordIsKnown n h') n h ts (λ w r k. subst (λ (o : Object ℕ). Knows n o) (sym (e.same w r)) k) l c;
}

pub known_among_more : (m n : ℕ) (h : Objects) (ts : List Term) → m ≤ n → TermsLie h ts → ConstantsAreKnown m h ts → ConstantsAreKnown n h ts
known_among_more m n h ts b l c = record {
  known = constants_have (WordIsKnown n h) m h ts (λ w r k. Symbols-weaker (λ s. s < m) (λ s. s < n) (λ s p. omega (arith, b, p)) (object_of h w) k) l c;
}

-- ---- forms and their parts

pub const_in : (n : ℕ) (h : Objects) (w : Word) → FormIsKnown n (seen_core h (variants.Const w)) → Knows n (object_of h w)
const_in n h w k = subst (λ f. FormIsKnown n f) (seen_const h w) k

pub call_in : (n : ℕ) (h : Objects) (f : SymId) (parts : List Core) → FormIsKnown n (seen_core h (views.Call f parts)) → FormsAreKnown n (cores.cores (seen_cores h parts))
call_in n h f parts k = subst (λ g. FormIsKnown n g) (seen_call h f parts) k

-- one of many
pub part_known : (n : ℕ) (h : Objects) (fs : List Core) (i : ℕ) (d x : Core) → i < length fs → x ≡ get_or fs i d → FormsAreKnown n (cores.cores (seen_cores h fs)) → FormIsKnown n (seen_core h x)
part_known n h [] i d x l e k = absurd (omega (arith, l))
part_known n h (f ∷ fs) zero d x l e k = subst (λ y. FormIsKnown n (seen_core h y)) (sym e) k.0
part_known n h (f ∷ fs) (suc i) d x l e k = part_known n h fs i d x (omega (arith, l)) e k.1

pub first_known : (n : ℕ) (h : Objects) (fs : List Core) (i : ℕ) (d : Core) → i < length fs → FormsAreKnown n (cores.cores (seen_cores h fs)) → FormIsKnown n (seen_core h (get_or fs i d))
first_known n h fs i d l k = part_known n h fs i d (get_or fs i d) l refl k

pub binding_known : (n : ℕ) (h : Objects) (bs : List (SymId × Core)) (i : ℕ) (d x : SymId × Core) → i < length bs → x ≡ get_or bs i d → FormsAreKnown n (cores.cores (seen_bound h bs)) → FormIsKnown n (seen_core h x.1)
binding_known n h [] i d x l e k = absurd (omega (arith, l))
binding_known n h (b ∷ bs) zero d x l e k = subst (λ (y : SymId × Core). FormIsKnown n (seen_core h y.1)) (sym e) k.0
binding_known n h (b ∷ bs) (suc i) d x l e k = binding_known n h bs i d x (omega (arith, l)) e k.1

module _ (n : ℕ) (h : Objects) (core : Core) where
  -- a variant as it is seen
  as_seen : (view : Core) (form : cores.Core) → core ≡ view → seen_core h view ≡ form → FormIsKnown n (seen_core h core) → FormIsKnown n form
  as_seen view form e s k = subst (λ f. FormIsKnown n f) s (subst (λ y. FormIsKnown n (seen_core h y)) e k)

  as_part : (a x : Core) → x ≡ a → FormIsKnown n (seen_core h a) → FormIsKnown n (seen_core h x)
  as_part a x s k = subst (λ y. FormIsKnown n (seen_core h y)) (sym s) k

  as_parts : (ps xs : List Core) → xs ≡ ps → FormsAreKnown n (cores.cores (seen_cores h ps)) → FormsAreKnown n (cores.cores (seen_cores h xs))
  as_parts ps xs s k = subst (λ ys. FormsAreKnown n (cores.cores (seen_cores h ys))) (sym s) k

  as_bound : (bs xs : List (SymId × Core)) → xs ≡ bs → FormsAreKnown n (cores.cores (seen_bound h bs)) → FormsAreKnown n (cores.cores (seen_bound h xs))
  as_bound bs xs s k = subst (λ (ys : List (SymId × Core)). FormsAreKnown n (cores.cores (seen_bound h ys))) (sym s) k

  pub known_const : (w : Word) → core ≡ variants.Const w → FormIsKnown n (seen_core h core) → Knows n (object_of h w)
  known_const w e k = as_seen (variants.Const w) (cores.Const (object_of h w)) e (seen_const h w) k

  if_parts : (a b c : Core) → core ≡ views.If a b c → FormIsKnown n (seen_core h core) → FormIsKnown n (cores.If (seen_core h a) (seen_core h b) (seen_core h c))
  if_parts a b c e k = as_seen (views.If a b c) (cores.If (seen_core h a) (seen_core h b) (seen_core h c)) e (seen_if h a b c) k

  pub known_test : (a b c x : Core) → core ≡ views.If a b c → x ≡ a → FormIsKnown n (seen_core h core) → FormIsKnown n (seen_core h x)
  known_test a b c x e s k = as_part a x s (if_parts a b c e k).0

  pub known_then : (a b c x : Core) → core ≡ views.If a b c → x ≡ b → FormIsKnown n (seen_core h core) → FormIsKnown n (seen_core h x)
  known_then a b c x e s k = as_part b x s (if_parts a b c e k).1

  pub known_other : (a b c x : Core) → core ≡ views.If a b c → x ≡ c → FormIsKnown n (seen_core h core) → FormIsKnown n (seen_core h x)
  known_other a b c x e s k = as_part c x s (if_parts a b c e k).2

  let_parts : (bs : List (SymId × Core)) (b : Core) → core ≡ views.Let bs b → FormIsKnown n (seen_core h core) → FormsAreKnown n (cores.cores (seen_bound h bs)) × FormIsKnown n (seen_core h b)
  let_parts bs b e k = subst (λ f. FormIsKnown n f) (seen_let h bs b) (subst (λ y. FormIsKnown n (seen_core h y)) e k)

  pub known_let_bound : (bs : List (SymId × Core)) (b : Core) (x : List (SymId × Core)) → core ≡ views.Let bs b → x ≡ bs → FormIsKnown n (seen_core h core) → FormsAreKnown n (cores.cores (seen_bound h x))
  known_let_bound bs b x e s k = as_bound bs x s (let_parts bs b e k).0

  pub known_let_body : (bs : List (SymId × Core)) (b x : Core) → core ≡ views.Let bs b → x ≡ b → FormIsKnown n (seen_core h core) → FormIsKnown n (seen_core h x)
  known_let_body bs b x e s k = as_part b x s (let_parts bs b e k).1

  pub known_mv_parts : (ps x : List Core) → core ≡ views.Mv ps → x ≡ ps → FormIsKnown n (seen_core h core) → FormsAreKnown n (cores.cores (seen_cores h x))
  known_mv_parts ps x e s k = as_parts ps x s (as_seen (views.Mv ps) (cores.Mv (cores.cores (seen_cores h ps))) e (seen_mv h ps) k)

  mv_let_parts : (ns : List SymId) (a b : Core) → core ≡ views.MvLet ns a b → FormIsKnown n (seen_core h core) → FormIsKnown n (seen_core h a) × FormIsKnown n (seen_core h b)
  mv_let_parts ns a b e k = subst (λ f. FormIsKnown n f) (seen_mv_let h ns a b) (subst (λ y. FormIsKnown n (seen_core h y)) e k)

  pub known_mv_let_bound : (ns : List SymId) (a b x : Core) → core ≡ views.MvLet ns a b → x ≡ a → FormIsKnown n (seen_core h core) → FormIsKnown n (seen_core h x)
  known_mv_let_bound ns a b x e s k = as_part a x s (mv_let_parts ns a b e k).0

  pub known_mv_let_body : (ns : List SymId) (a b x : Core) → core ≡ views.MvLet ns a b → x ≡ b → FormIsKnown n (seen_core h core) → FormIsKnown n (seen_core h x)
  known_mv_let_body ns a b x e s k = as_part b x s (mv_let_parts ns a b e k).1

  stobj_let_parts : (bs : List (SymId × Core)) (vs : List SymId) (p c : Core) → core ≡ views.StobjLet bs vs p c → FormIsKnown n (seen_core h core)
      → FormsAreKnown n (cores.cores (seen_bound h bs)) × FormIsKnown n (seen_core h p) × FormIsKnown n (seen_core h c)
  stobj_let_parts bs vs p c e k = subst (λ f. FormIsKnown n f) (seen_stobj_let h bs vs p c) (subst (λ y. FormIsKnown n (seen_core h y)) e k)

  pub known_lent : (bs : List (SymId × Core)) (vs : List SymId) (p c : Core) (x : List (SymId × Core)) → core ≡ views.StobjLet bs vs p c → x ≡ bs → FormIsKnown n (seen_core h core)
      → FormsAreKnown n (cores.cores (seen_bound h x))
  known_lent bs vs p c x e s k = as_bound bs x s (stobj_let_parts bs vs p c e k).0

  pub known_lent_producer : (bs : List (SymId × Core)) (vs : List SymId) (p c x : Core) → core ≡ views.StobjLet bs vs p c → x ≡ p → FormIsKnown n (seen_core h core) → FormIsKnown n (seen_core h x)
  known_lent_producer bs vs p c x e s k = as_part p x s (stobj_let_parts bs vs p c e k).1

  pub known_consumer : (bs : List (SymId × Core)) (vs : List SymId) (p c x : Core) → core ≡ views.StobjLet bs vs p c → x ≡ c → FormIsKnown n (seen_core h core) → FormIsKnown n (seen_core h x)
  known_consumer bs vs p c x e s k = as_part c x s (stobj_let_parts bs vs p c e k).2

  with_local_parts : (o : SymId) (ns : List SymId) (p b : Core) → core ≡ views.WithLocal o ns p b → FormIsKnown n (seen_core h core) → FormIsKnown n (seen_core h p) × FormIsKnown n (seen_core h b)
  with_local_parts o ns p b e k = subst (λ f. FormIsKnown n f) (seen_with_local h o ns p b) (subst (λ y. FormIsKnown n (seen_core h y)) e k)

  pub known_local_producer : (o : SymId) (ns : List SymId) (p b x : Core) → core ≡ views.WithLocal o ns p b → x ≡ p → FormIsKnown n (seen_core h core) → FormIsKnown n (seen_core h x)
  known_local_producer o ns p b x e s k = as_part p x s (with_local_parts o ns p b e k).0

  pub known_local_body : (o : SymId) (ns : List SymId) (p b x : Core) → core ≡ views.WithLocal o ns p b → x ≡ b → FormIsKnown n (seen_core h core) → FormIsKnown n (seen_core h x)
  known_local_body o ns p b x e s k = as_part b x s (with_local_parts o ns p b e k).1

  pub known_logic : (a b x : Core) → core ≡ views.MustBeEqual a b → x ≡ a → FormIsKnown n (seen_core h core) → FormIsKnown n (seen_core h x)
  known_logic a b x e s k =
      let both : FormIsKnown n (seen_core h a) × FormIsKnown n (seen_core h b) = subst (λ f. FormIsKnown n f) (seen_must_be_equal h a b) (subst (λ y. FormIsKnown n (seen_core h y)) e k) in
      as_part a x s both.0

  pub known_actuals : (f : SymId) (ps x : List Core) → core ≡ views.Call f ps → x ≡ ps → FormIsKnown n (seen_core h core) → FormsAreKnown n (cores.cores (seen_cores h x))
  known_actuals f ps x e s k = as_parts ps x s (as_seen (views.Call f ps) (cores.Call f.0 (cores.cores (seen_cores h ps))) e (seen_call h f ps) k)
