-- The logic follows checked evaluation, in the words of lists that correspond.
use Rattle.std.proofs.Common.{◌≡◌, ℕ, List, [], ◌∷◌, map, Bool, true, false, Option, Some, refl, sym, ap, ◌∙◌, subst}
use Rattle.std.specs.Prelude.{◌||◌, nat_eq, if◌then◌else◌}
use Rattle.std.proofs.lemmas.Bool.{eqb-true}
use Rattle.model_objects.specs.Object.{Object, Symbol, Pair}
use Rattle.model_symbols.specs.Symbols.{QualifiedName, symbol_at, form_of}
use Rattle.model_symbols.specs.Opening.{nil, nil_name}
use Rattle.model_symbols.proofs.NameLemmas.{symbol_at-is}
use Rattle.model_prims.specs.Kinds.{by_number, by_name}
use Rattle.model_lists.specs.Lists.{StobjList, Value, Pairs, End, Item, as_object}
use Rattle.model_terms.specs.Worlds.{World, Descriptor, Definition, Concrete, definition, Out, Scope}
use Rattle.model_terms.specs.Worlds as worlds
use Rattle.model_terms.specs.Classes.{has, repeats}
use Rattle.model_terms.specs.Scopes.{kind_in}
use Rattle.model_eval.specs.Outcomes.{Shown, Plain, StobjNamed, Stobjs}
use Rattle.model_eval.specs.Variables.{variable_in, list_of}
use Rattle.model_eval.specs.Checked.{checked}
use Rattle.model_logic.specs.Logic.{Theory, Thing, EndsWith}
use Rattle.model_abstract.specs.Corresponding.{named_list, Fits, IsConcrete, CorrespondAs, Correspond}
use Rattle.model_eval_laws.specs.Scope.{names, is_among}
use Rattle.model_eval_laws.proofs.Lists.{same_number}
use Rattle.model_accepted.specs.StobjScopes.{IsStobj, IsOfKind, AreOutputs}
use Rattle.model_accepted.proofs.AcceptLemmas.{false_true, true_false, neither}
use Rattle.model_follows.specs.Follows.{thing_of_list, thing_of, things_of, one_thing, table_of, Followed}
use Rattle.model_follows.specs.Corresponding.{Lists, as_thing, theory_with, Follow, LogicFollowsOnLists}
use Rattle.model_follows.proofs.ThingLemmas.{list_stays, knows_nil}
use Rattle.model_follows.proofs.Following.{gives_map}
use Rattle.model_follows.proofs.LawLemmas.{logic_follows}

-- the ordinary object of a list by name
module _ (symbols : List QualifiedName) (at_nil : symbol_at symbols nil ≡ nil_name) where
  pairs_named : (ps : List (Object ℕ × Object ℕ)) → as_object by_name (named_list symbols (Pairs ps)) ≡ form_of symbols (as_object by_number (Pairs ps))
  pairs_named [] = ap Symbol (sym at_nil)
  pairs_named (p ∷ ps) = ap (λ (o : Thing). Pair (Pair (form_of symbols p.0) (form_of symbols p.1)) o) (pairs_named ps)

  pub list_named : (l : StobjList ℕ) → as_object by_name (named_list symbols l) ≡ thing_of_list symbols l
  list_named (Value o) = refl
  list_named (Pairs ps) = pairs_named ps
  list_named End = ap Symbol (sym at_nil)
  list_named (Item first rest) = rw (list_named first, list_named rest) refl

-- ---- lists that correspond, of concrete stobjs

abbrev all_named : List QualifiedName → Stobjs ℕ → Lists
all_named symbols os = map (λ (o : ℕ × StobjList ℕ). (o.0, named_list symbols o.1)) os

all_named_list : (symbols : List QualifiedName) (os : Stobjs ℕ) (x : ℕ) → is_among x (names os) ≡ true → list_of (all_named symbols os) x ≡ named_list symbols (list_of os x)
all_named_list symbols [] x h = false_true h
all_named_list symbols (o ∷ os) x h = go (nat_eq x o.0) h (all_named_list symbols os x)
  where
    go : (b : Bool) → (b || is_among x (names os)) ≡ true → (is_among x (names os) ≡ true → list_of (all_named symbols os) x ≡ named_list symbols (list_of os x))
        → (if b then named_list symbols o.1 else list_of (all_named symbols os) x) ≡ named_list symbols (if b then o.1 else list_of os x)
    go true e later = refl
    go false e later = later e

abbrev AreConcrete : World → Stobjs ℕ → Type 0
AreConcrete w os = (x : ℕ) → is_among x (names os) ≡ true → (d : Descriptor) × (class : ℕ) × (definition w x ≡ Some (Concrete d class))

pub among_more : (x y : ℕ) (ns : List ℕ) → is_among x ns ≡ true → is_among x (y ∷ ns) ≡ true
among_more x y ns h = go (nat_eq x y)
  where
    go : (b : Bool) → (b || is_among x ns) ≡ true
    go true = refl
    go false = h

-- what stands in the lists, one after another
corresponding_list : (b : Theory) (os : Stobjs ℕ) (ls : Lists) (x : ℕ) → AreConcrete b.world os → Correspond b os ls → is_among x (names os) ≡ true → Fits b x (list_of os x) × (list_of ls x ≡ named_list b.symbols (list_of os x))
corresponding_list b [] ls x a c h = false_true h
corresponding_list b (o ∷ os) [] x a c h = absurd c
corresponding_list b (o ∷ os) (l ∷ ls) x a c h = go (nat_eq x o.0) refl h (corresponding_list b os ls x (λ y i. a y (among_more y o.0 (names os) i)) c.2)
  where
    here : IsConcrete b o.0 o.1 l.1
    here =
        let d : (d : Descriptor) × (class : ℕ) × (definition b.world o.0 ≡ Some (Concrete d class)) = a o.0 (ap (λ (q : Bool). q || is_among o.0 (names os)) (same_number o.0)) in
        subst (λ (m : Option Definition). CorrespondAs b o.0 m o.1 l.1) d.2 c.1

    go : (q : Bool) → nat_eq x o.0 ≡ q → (q || is_among x (names os)) ≡ true → (is_among x (names os) ≡ true → Fits b x (list_of os x) × (list_of ls x ≡ named_list b.symbols (list_of os x)))
        → Fits b x (if q then o.1 else list_of os x) × ((if nat_eq x l.0 then l.1 else list_of ls x) ≡ named_list b.symbols (if q then o.1 else list_of os x))
    go true e i later = (
      subst (λ (z : ℕ). Fits b z o.1) (sym (eqb-true x o.0 e)) here.fits,
      ap (λ (q : Bool). if q then l.1 else list_of ls x) (ap (nat_eq x) (sym c.0) ∙ e) ∙ sym here.equal,
    )
    go false e i later =
        let rest : Fits b x (list_of os x) × (list_of ls x ≡ named_list b.symbols (list_of os x)) = later i in
        (rest.0, ap (λ (q : Bool). if q then l.1 else list_of ls x) (ap (nat_eq x) (sym c.0) ∙ e) ∙ rest.1)

correspond_named : (b : Theory) (os : Stobjs ℕ) → AreConcrete b.world os → repeats (names os) ≡ false → ((x : ℕ) → is_among x (names os) ≡ true → Fits b x (list_of os x)) → Correspond b os (all_named b.symbols os)
correspond_named b [] a r f = tt
correspond_named b (o ∷ os) a r f =
    let apart : (has (names os) o.0 ≡ false) × (repeats (names os) ≡ false) = neither (has (names os) o.0) (repeats (names os)) r in
    let first : is_among o.0 (o.0 ∷ names os) ≡ true = ap (λ (q : Bool). q || is_among o.0 (names os)) (same_number o.0) in
    let d : (d : Descriptor) × (class : ℕ) × (definition b.world o.0 ≡ Some (Concrete d class)) = a o.0 first in (
      refl,
      subst (λ (m : Option Definition). CorrespondAs b o.0 m o.1 (named_list b.symbols o.1)) (sym d.2)
          (record { fits = subst (Fits b o.0) (ap (λ (q : Bool). if q then o.1 else list_of os o.0) (same_number o.0)) (f o.0 first); equal = refl }),
      correspond_named b os (λ y i. a y (among_more y o.0 (names os) i)) apart.1
          (λ y i. subst (Fits b y) (ap (λ (q : Bool). if q then o.1 else list_of os y) (different y i apart.0)) (f y (among_more y o.0 (names os) i))),
    )
  where
    different : (y : ℕ) → is_among y (names os) ≡ true → has (names os) o.0 ≡ false → nat_eq y o.0 ≡ false
    different y i e = go (nat_eq y o.0) refl
      where
        go : (q : Bool) → nat_eq y o.0 ≡ q → q ≡ false
        go true g = true_false (sym i ∙ (ap (λ (z : ℕ). is_among z (names os)) (eqb-true y o.0 g) ∙ e))
        go false g = refl

pub follows_on_lists : LogicFollowsOnLists
follows_on_lists = record {
  follows = λ w base threaded followed symbols bg c mode scope form expected suits n accepted formed suited k d variables s lists values table truth grown are inside correspond vals.
      let b : Theory = theory_with w base s.symbols in
      let at : ((x : ℕ) → IsStobj scope x → Fits b x (list_of s.stobjs x) × (list_of lists x ≡ named_list s.symbols (list_of s.stobjs x)))
      = λ x o. corresponding_list b s.stobjs lists x inside.concrete correspond (inside.there x o) in
      let at_nil : symbol_at s.symbols nil ≡ nil_name = symbol_at-is s.symbols nil nil_name truth.at_nil in
      gives_map (Followed w base (theory_with w base symbols) scope expected form values s) (Follow w base (theory_with w base symbols) scope expected form values lists) (checked w base.packages k d form variables s)
      (λ given u e.
      let last : Lists = all_named u.symbols u.stobjs in
      let now_nil : symbol_at u.symbols nil ≡ nil_name = symbol_at-is u.symbols nil nil_name e.sound.truth.at_nil in
      let there : ((x : ℕ) → IsStobj scope x → is_among x (names u.stobjs) ≡ true) = λ x o. ap (is_among x) e.same_names ∙ inside.there x o in
      let lists_are : ((x : ℕ) → IsStobj scope x → as_object by_name (list_of last x) ≡ thing_of_list u.symbols (list_of u.stobjs x))
      = λ x o. ap (as_object by_name) (all_named_list u.symbols u.stobjs x (there x o)) ∙ list_named u.symbols now_nil (list_of u.stobjs x) in
      record {
        last = last;
        correspond =
            correspond_named (theory_with w base u.symbols) u.stobjs (λ x i. inside.concrete x (sym (ap (is_among x) e.same_names) ∙ i)) (ap repeats e.same_names ∙ inside.once)
            (λ x i. let o : IsStobj scope x = inside.only x (sym (ap (is_among x) e.same_names) ∙ i) in record { fields = e.fits x o; recognized = e.sound.recognized x o; known = e.sound.known x o });
        leaves = λ x o h.
            lists_are x o ∙ (ap (thing_of_list u.symbols) (e.unreturned x o h)
            ∙ (list_stays (table_of base.packages s.symbols) (table_of base.packages u.symbols) e.grown (list_of s.stobjs x) (knows_nil (table_of base.packages s.symbols) truth) (at x o).0.known
            ∙ sym (ap (as_object by_name) (at x o).1 ∙ list_named s.symbols at_nil (list_of s.stobjs x))));
        ends =
            subst (λ (ts : List Thing). EndsWith (theory_with w base symbols) form values (one_thing ts)) (sym (things_are scope u.symbols u.stobjs last lists_are expected given e.outputs)) e.ends;
      })
      (logic_follows.follows w base threaded followed symbols bg c mode scope form expected suits n accepted formed suited k d variables s values are
      (record { known = inside.there; fits = λ x o. (at x o).0.fields })
      (record { table = table; truth = truth; grown = grown; known = λ x o. (at x o).0.known; recognized = λ x o. (at x o).0.recognized })
      (record { known = vals.known; same = λ x m i. vals.same x m i ∙ shown_is scope x m s.symbols s.stobjs lists at_nil (λ y o. (at y o).1) (variable_in by_number variables x) i (are.each x m i) }));
}
  where
    things_are : (scope : Scope) (symbols : List QualifiedName) (os : Stobjs ℕ) (last : Lists) → ((x : ℕ) → IsStobj scope x → as_object by_name (list_of last x) ≡ thing_of_list symbols (list_of os x))
        → (kinds : List Out) (given : List (Shown ℕ)) → AreOutputs scope kinds given → map (as_thing symbols last) given ≡ things_of symbols os given
    things_are scope symbols os last l [] [] a = refl
    things_are scope symbols os last l [] (v ∷ vs) a = absurd a
    things_are scope symbols os last l (q ∷ ks) [] a = absurd a
    things_are scope symbols os last l (q ∷ ks) (Plain o ∷ vs) a = ap (λ (ts : List Thing). form_of symbols o ∷ ts) (things_are scope symbols os last l ks vs a.1)
    things_are scope symbols os last l (worlds.Ordinary ∷ ks) (StobjNamed y ∷ vs) a = absurd a.0
    things_are scope symbols os last l (worlds.Stobj x ∷ ks) (StobjNamed y ∷ vs) a = rw (l y (subst (IsStobj scope) (sym a.0.0) a.0.1), things_are scope symbols os last l ks vs a.1) refl

    shown_is : (scope : Scope) (x : ℕ) (k : Out) (symbols : List QualifiedName) (os : Stobjs ℕ) (lists : Lists) → symbol_at symbols nil ≡ nil_name → ((y : ℕ) → IsStobj scope y → list_of lists y ≡ named_list symbols (list_of os y))
        → (v : Shown ℕ) → kind_in scope x ≡ Some k → IsOfKind x k v → as_thing symbols lists v ≡ thing_of symbols os v
    shown_is scope x k symbols os lists e l (Plain o) i g = refl
    shown_is scope x worlds.Ordinary symbols os lists e l (StobjNamed y) i g = absurd g
    shown_is scope x (worlds.Stobj z) symbols os lists e l (StobjNamed y) i g =
        let stobj : IsStobj scope x = i ∙ ap (λ (m : ℕ). Some (worlds.Stobj m)) g.0 in
        ap (as_object by_name) (l y (subst (IsStobj scope) (sym (same g.1)) stobj)) ∙ list_named symbols e (list_of os y)
      where
        same : ◌≡◌ {A = Shown ℕ} (StobjNamed y) (StobjNamed x) → y ≡ x
        same h = cc
