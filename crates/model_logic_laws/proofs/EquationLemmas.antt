-- What the printed form of a correspondence says of the outputs of both functions.
use Rattle.std.proofs.Common.{◌≡◌, ℕ, ◌+◌, List, [], ◌∷◌, map, Bool, true, false, Option, Some, None, refl, sym, ap, ◌∙◌, subst, inl, inr}
use Rattle.std.specs.Prelude.{◌⊎◌, pos}
use Rattle.std.proofs.lemmas.Bool.Decides.{Decides-int_eq}
use Rattle.std.proofs.lemmas.Slice.Eq.{bytes_eq-Decides}
use Rattle.model_objects.specs.Object.{Object, Integer, Symbol, Text, Pair}
use Rattle.model_symbols.specs.Symbols.{QualifiedName, symbol_at, form_of}
use Rattle.model_symbols.specs.Opening.{nil, truth_name, nil_name}
use Rattle.model_symbols.proofs.NameLemmas.{same_name-Decides, same_self}
use Rattle.model_prims.specs.Kinds.{by_name, is_nil, same_object, truth_of}
use Rattle.model_prims.specs.Lists.{element}
use Rattle.model_prims.specs.Applied.{value_of}
use Rattle.model_prims.specs.Values.{wanted, related, listed}
use Rattle.model_prims.specs.declared.prim.Prim.{Prim}
use Rattle.model_prims.specs.declared.prim.Prim.TheVariants as prim
use Rattle.model_prims.specs.declared.prim.Relation.TheVariants as relation
use Rattle.model_prims.specs.declared.prim.Listing.TheVariants as listing
use Rattle.model_terms.specs.Cores.{Core, Cores, Var, Const, If, Call, none, more, cores}
use Rattle.model_terms.specs.Worlds.{Out, Ordinary, AbstractDescriptor}
use Rattle.model_terms.specs.Worlds as worlds
use Rattle.model_expansion.specs.Words.{equal_word, nth_word}
use Rattle.model_expansion.specs.TypeTerms.{false_core}
use Rattle.model_stobjs.specs.Obligations.{all_core, call_of, part_of, output_equation, output_equations, outputs_correspond}
use Rattle.model_logic.specs.Logic.{Theory, Thing, Values, Found, value_in, element_values, form_value, EndsWith, CallEndsWith}
use Rattle.model_abstract.specs.Rules.{out_parts}
use Rattle.model_abstract.specs.Corresponding.{CallHolds}
use Rattle.model_follows.specs.Costs.{caller}
use Rattle.model_follows.specs.PartLaw.{AllEnd}
use Rattle.model_follows.proofs.PartLemmas.{parts_end}
use Rattle.model_follows.proofs.LaterLemmas.{call_costs}
use Rattle.model_follows.proofs.EarlierLemmas.{ends_once}
use Rattle.model_accepted.proofs.AcceptLemmas.{true_false, both_true}
use Rattle.model_logic_laws.specs.Equations.{HasEqualAndNth, EndsTrue, OutputsMeet, EquationsTellOutputs}

-- ---- equal objects

same_tells : (x y : Thing) → same_object by_name x y ≡ true → x ≡ y
same_tells (Integer m) (Integer n) e = ap Integer ((Decides-int_eq m n).0 e)
same_tells (Integer m) (Symbol t) e = cc
same_tells (Integer m) (Text b) e = cc
same_tells (Integer m) (Pair b f) e = cc
same_tells (Symbol s) (Integer n) e = cc
same_tells (Symbol s) (Symbol t) e = ap Symbol ((same_name-Decides s t).0 e)
same_tells (Symbol s) (Text b) e = cc
same_tells (Symbol s) (Pair b f) e = cc
same_tells (Text a) (Integer n) e = cc
same_tells (Text a) (Symbol t) e = cc
same_tells (Text a) (Text b) e = ap Text ((bytes_eq-Decides a b).0 e)
same_tells (Text a) (Pair b f) e = cc
same_tells (Pair a d) (Integer n) e = cc
same_tells (Pair a d) (Symbol t) e = cc
same_tells (Pair a d) (Text b) e = cc
same_tells (Pair a d) (Pair b f) e =
    let parts : (same_object by_name a b ≡ true) × (same_object by_name d f ≡ true) = both_true (same_object by_name a b) (same_object by_name d f) e in
    rw (same_tells a b parts.0, same_tells d f parts.1) refl

nil_is_nil : is_nil by_name (Symbol nil_name) ≡ true
nil_is_nil = same_self nil_name

module _ (b : Theory) (values : Values) where
  -- ---- variables and constants

  var_ends : (x : ℕ) (v : Thing) → EndsWith b (Var x) values v → v ≡ value_in values x
  unfolding form_value
  var_ends x v e = sym (ap value_or e.2)
    where
      value_or : Option Found → Thing
      value_or None = v
      value_or (Some z) = z.value

  const_ends : (o : Object ℕ) (v : Thing) → EndsWith b (Const o) values v → v ≡ form_of b.symbols o
  unfolding form_value
  const_ends o v e = sym (ap value_or e.2)
    where
      value_or : Option Found → Thing
      value_or None = v
      value_or (Some z) = z.value

  vars_end : (xs : List ℕ) (os : List Thing) → AllEnd b (cores (map Var xs)) values os → os ≡ map (value_in values) xs
  vars_end [] [] h = refl
  vars_end [] (o ∷ os) h = absurd h
  vars_end (x ∷ xs) [] h = absurd h
  vars_end (x ∷ xs) (o ∷ os) h = rw (var_ends x o h.0, vars_end xs os h.1) refl

  -- ---- calls

  pub call_ends : (f : ℕ) (xs : List ℕ) (v : Thing) → EndsWith b (call_of f (map Var xs)) values v → CallEndsWith b f (map (value_in values) xs) v
  call_ends f xs v e =
      let parts = parts_end.calls b f (cores (map Var xs)) values v e in
      subst (λ (os : List Thing). CallEndsWith b f os v) (vars_end xs parts.0 parts.1) parts.2

  pub one_value : (f : ℕ) (os : List Thing) (v u : Thing) → CallEndsWith b f os v → CallEndsWith b f os u → v ≡ u
  one_value f os v u h g = ends_once (λ budget nest start. caller b budget nest f os start) v u (call_costs b f os v h) (call_costs b f os u g)

  pub record Two (f : ℕ) (p q : Core) (v : Thing) : Type 0 where
    pub x : Thing
    pub y : Thing
    pub first : EndsWith b p values x
    pub second : EndsWith b q values y
    pub call : CallEndsWith b f (x ∷ y ∷ []) v

  pub two_args : (f : ℕ) (p q : Core) (v : Thing) → EndsWith b (call_of f (p ∷ q ∷ [])) values v → Two f p q v
  two_args f p q v e = go (parts_end.calls b f (more p (more q none)) values v e)
    where
      go : (os : List Thing) × AllEnd b (more p (more q none)) values os × CallEndsWith b f os v → Two f p q v
      go ([], h, g) = absurd h
      go (x ∷ [], h, g) = absurd h.1
      go (x ∷ (y ∷ []), h, g) = record { x = x; y = y; first = h.0; second = h.1.0; call = g }
      go (x ∷ (y ∷ (z ∷ zs)), h, g) = absurd h.1.1

  module _ (h : HasEqualAndNth b) where
    equal_is : (p : Prim) (x y : Thing) → p ≡ prim.Relation relation.Equal → value_of b.packages p (x ∷ y ∷ []) ≡ truth_of by_name (same_object by_name x y)
    unfolding wanted related
    equal_is p x y e = ap (λ (q : Prim). value_of b.packages q (x ∷ y ∷ [])) e

    nth_is : (p : Prim) (i : ℕ) (y : Thing) → p ≡ prim.Listing listing.Nth → value_of b.packages p (Integer (pos i) ∷ y ∷ []) ≡ element by_name i y
    unfolding wanted listed
    nth_is p i y e = ap (λ (q : Prim). value_of b.packages q (Integer (pos i) ∷ y ∷ [])) e

    -- ---- what an equation says

    record Equal (p q : Core) : Type 0 where
      value : Thing
      first : EndsWith b p values value
      second : EndsWith b q values value

    equal_tells : (p q : Core) → EndsTrue b (call_of equal_word (p ∷ q ∷ [])) values → Equal p q
    equal_tells p q t =
        let two : Two equal_word p q t.0 = two_args equal_word p q t.0 t.1 in
        let is : t.0 ≡ truth_of by_name (same_object by_name two.x two.y)
        = parts_end.primitives b equal_word h.equal_name h.equal_row (two.x ∷ two.y ∷ []) t.0 h.equal two.call ∙ equal_is h.equal_row.prim two.x two.y h.is_equal in
        go two (same_object by_name two.x two.y) refl (sym (ap (is_nil by_name) is) ∙ t.2)
      where
        go : (two : Two equal_word p q t.0) (r : Bool) → same_object by_name two.x two.y ≡ r → is_nil by_name (truth_of by_name r) ≡ false → Equal p q
        go two true e n = record { value = two.x; first = two.first; second = subst (λ (z : Thing). EndsWith b q values z) (sym (same_tells two.x two.y e)) two.second }
        go two false e n = true_false (sym nil_is_nil ∙ n)

    pub record Part (i : ℕ) (p : Core) (v : Thing) : Type 0 where
      pub whole : Thing
      pub ends : EndsWith b p values whole
      pub part : v ≡ element by_name i whole

    pub part_tells : (i : ℕ) (p : Core) (v : Thing) → EndsWith b (part_of i p) values v → Part i p v
    part_tells i p v e =
        let two : Two nth_word (Const (Integer (pos i))) p v = two_args nth_word (Const (Integer (pos i))) p v e in
        let index : two.x ≡ Integer (pos i) = const_ends (Integer (pos i)) two.x two.first in
        record {
          whole = two.y;
          ends = two.second;
          part =
              parts_end.primitives b nth_word h.nth_name h.nth_row (two.x ∷ two.y ∷ []) v h.nth two.call
              ∙ (ap (λ (x : Thing). value_of b.packages h.nth_row.prim (x ∷ two.y ∷ [])) index ∙ nth_is h.nth_row.prim i two.y h.is_nth);
        }

    -- ---- all of several

    module _ (at_nil : symbol_at b.symbols nil ≡ nil_name) where
      if_tells : (p rest : Core) → EndsTrue b (If p rest false_core) values → EndsTrue b p values × EndsTrue b rest values
      if_tells p rest t = go (parts_end.ifs b p rest false_core values t.0 t.1)
        where
          go : (x : Thing) × EndsWith b p values x × (((is_nil by_name x ≡ false) × EndsWith b rest values t.0) ⊎ ((is_nil by_name x ≡ true) × EndsWith b false_core values t.0)) → EndsTrue b p values × EndsTrue b rest values
          go (x, e, inl c) = ((x, e, c.0), (t.0, c.1, t.2))
          go (x, e, inr c) = true_false (sym nil_is_nil ∙ (ap (is_nil by_name) (sym (const_ends (Symbol nil) t.0 c.1 ∙ ap Symbol at_nil)) ∙ t.2))

      module _ (symbols : List QualifiedName) (d : AbstractDescriptor) (logic exec : ℕ) (xs ys : List ℕ) where
        abbrev A : Core
        A = call_of logic (map Var xs)

        abbrev C : Core
        C = call_of exec (map Var ys)

        abbrev LogicGives : Thing → Type 0
        LogicGives l = CallEndsWith b logic (map (value_in values) xs) l

        abbrev ExecGives : Thing → Type 0
        ExecGives e = CallEndsWith b exec (map (value_in values) ys) e

        -- one output meets the other
        abbrev Meets : Out → Thing → Thing → Type 0
        Meets Ordinary e l = e ≡ l
        Meets (worlds.Stobj x) e l = CallHolds b d.corr (e ∷ l ∷ [])

        record One (k : Out) (at : Thing → Thing) : Type 0 where
          e : Thing
          l : Thing
          runs : ExecGives e
          gives : LogicGives l
          meet : Meets k (at e) (at l)

        -- the equation of the whole value, and that of a part
        whole_tells : (k : Out) → EndsTrue b (output_equation b.world symbols d k A C) values → One k (λ v. v)
        whole_tells Ordinary t =
            let q : Equal A C = equal_tells A C t in
            record { e = q.value; l = q.value; runs = call_ends exec ys q.value q.second; gives = call_ends logic xs q.value q.first; meet = refl }
        whole_tells (worlds.Stobj x) t =
            let two : Two d.corr C A t.0 = two_args d.corr C A t.0 t.1 in
            record { e = two.x; l = two.y; runs = call_ends exec ys two.x two.first; gives = call_ends logic xs two.y two.second; meet = (t.0, two.call, t.2) }

        at_part : (i : ℕ) (k : Out) → EndsTrue b (output_equation b.world symbols d k (part_of i A) (part_of i C)) values → One k (λ v. element by_name i v)
        at_part i Ordinary t =
            let q : Equal (part_of i A) (part_of i C) = equal_tells (part_of i A) (part_of i C) t in
            let a : Part i A q.value = part_tells i A q.value q.first in
            let c : Part i C q.value = part_tells i C q.value q.second in
            record { e = c.whole; l = a.whole; runs = call_ends exec ys c.whole c.ends; gives = call_ends logic xs a.whole a.ends; meet = sym c.part ∙ a.part }
        at_part i (worlds.Stobj x) t =
            let two : Two d.corr (part_of i C) (part_of i A) t.0 = two_args d.corr (part_of i C) (part_of i A) t.0 t.1 in
            let c : Part i C two.x = part_tells i C two.x two.first in
            let a : Part i A two.y = part_tells i A two.y two.second in
            record {
              e = c.whole;
              l = a.whole;
              runs = call_ends exec ys c.whole c.ends;
              gives = call_ends logic xs a.whole a.ends;
              meet = (t.0, subst (λ (z : Thing). CallEndsWith b d.corr (z ∷ element by_name i a.whole ∷ []) t.0) c.part (subst (λ (z : Thing). CallEndsWith b d.corr (two.x ∷ z ∷ []) t.0) a.part two.call), t.2);
            }

        -- the same of these values
        meets_of : (k : Out) (i : ℕ) (e l : Thing) → ExecGives e → LogicGives l → One k (λ v. element by_name i v) → Meets k (element by_name i e) (element by_name i l)
        meets_of k i e l r g o =
            subst (λ (z : Thing). Meets k (element by_name i z) (element by_name i l)) (one_value exec (map (value_in values) ys) o.e e o.runs r)
            (subst (λ (z : Thing). Meets k (element by_name i o.e) (element by_name i z)) (one_value logic (map (value_in values) xs) o.l l o.gives g) o.meet)

        abbrev zeros : List Out → List ℕ
        zeros ks = map (λ (q : Out). 0) ks

        join : (k : Out) (ks : List Out) (e l : Thing) (es ls : List Thing) → Meets k e l → OutputsMeet b d.corr ks es ls → OutputsMeet b d.corr (k ∷ ks) (e ∷ es) (l ∷ ls)
        join Ordinary ks e l es ls m r = (m, r)
        join (worlds.Stobj x) ks e l es ls m r = (m, r)

        all_tell : (i : ℕ) (k : Out) (ks : List Out) (e l : Thing) → ExecGives e → LogicGives l → EndsTrue b (all_core (output_equations b.world symbols d i (k ∷ ks) A C)) values
            → OutputsMeet b d.corr (k ∷ ks) (element_values (zeros (k ∷ ks)) i e) (element_values (zeros (k ∷ ks)) i l)
        all_tell i k [] e l r g t = join k [] (element by_name i e) (element by_name i l) [] [] (meets_of k i e l r g (at_part i k t)) tt
        all_tell i k (q ∷ qs) e l r g t =
            let both = if_tells (output_equation b.world symbols d k (part_of i A) (part_of i C)) (all_core (output_equations b.world symbols d (i + 1) (q ∷ qs) A C)) t in
            join k (q ∷ qs) (element by_name i e) (element by_name i l) (element_values (zeros (q ∷ qs)) (i + 1) e) (element_values (zeros (q ∷ qs)) (i + 1) l)
            (meets_of k i e l r g (at_part i k both.0)) (all_tell (i + 1) q qs e l r g both.1)

        tells : (first : Out) (others : List Out) → EndsTrue b (all_core (outputs_correspond b.world symbols d (first ∷ others) A C)) values
            → (e : Thing) × (l : Thing) × ExecGives e × LogicGives l × OutputsMeet b d.corr (first ∷ others) (out_parts b 0 (first ∷ others) e) (out_parts b 0 (first ∷ others) l)
        tells first [] t = let o : One first (λ v. v) = whole_tells first t in (o.e, o.l, o.runs, o.gives, join first [] o.e o.l [] [] o.meet tt)
        tells first (q ∷ qs) t =
            let both = if_tells (output_equation b.world symbols d first (part_of 0 A) (part_of 0 C)) (all_core (output_equations b.world symbols d 1 (q ∷ qs) A C)) t in
            let o : One first (λ v. element by_name 0 v) = at_part 0 first both.0 in
            (o.e, o.l, o.runs, o.gives, all_tell 0 first (q ∷ qs) o.e o.l o.runs o.gives t)

pub equations_tell_outputs : EquationsTellOutputs
equations_tell_outputs = record { tell = λ b symbols d h at_nil first others logic exec xs ys values t. tells b values h at_nil symbols d logic exec xs ys first others t }
