-- How the fields of a world change with it.
use Rattle.std.specs.Prelude.{◌≡◌, ℕ, zero, suc, ◌<◌, List, [], ◌∷◌, ◌++◌, length, map, Option, Some, None, nat_eq, position, slice_get, set, take, refl, if◌then◌else◌, option_map, option_and_then}
use Rattle.std.specs.List.{IsDistinct}
use Rattle.std.proofs.Common.{sym, ap, ◌∙◌, arith, subst}
use Rattle.std.specs.Option.{option_or}
use Rattle.std.proofs.lemmas.List.{map-append, length-map}
use Rattle.model_symbols.proofs.Positions.{position-push}
use Rattle.std.proofs.lemmas.List.Elements.{All-push, All-set, All-take}
use Rattle.acl_base.specs.declared.layout.Layout.{Layout}
use Rattle.acl_heap.specs.Objects.{Objects}
use Rattle.model_terms.specs.Worlds as worlds
use Rattle.acl_terms.specs.declared.definition.Definition.{Definition}
use Rattle.acl_terms.specs.Definitions.{seen_definition, seen_definitions, name_in, FitsTable}
use Rattle.acl_terms.specs.Growth.{seen-name}
use Rattle.acl_worlds.specs.Contents.{Content, names_in, number_of, seen_world, with_definition}
use Rattle.acl_worlds.specs.Fields.{fields_of, AreFields}
use Rattle.acl_worlds.proofs.NameLemmas.{distinct_push, distinct_take, found_at}

pub fields_push : (ds : List Definition) (ls : List Layout) (names : List ℕ) (d : Definition) → AreFields ds ls names → position (nat_eq (name_in d)) (names_in ds) ≡ None → FitsTable d
    → AreFields (ds ++ d ∷ []) ls (names ++ name_in d ∷ [])
fields_push ds ls names d f new fits =
    let same : names_in (ds ++ d ∷ []) ≡ names_in ds ++ name_in d ∷ [] = map-append name_in ds (d ∷ []) in
    record {
      world = record {
        distinct = subst (λ ns. IsDistinct nat_eq ns) (sym same) (distinct_push (names_in ds) (name_in d) f.world.distinct new);
        fit = All-push FitsTable ds d f.world.fit fits;
      };
      listed = ap (λ ns. ns ++ name_in d ∷ []) f.listed ∙ sym same;
    }

-- layouts do not matter
pub fields_layouts : (ds : List Definition) (ls ks : List Layout) (names : List ℕ) → AreFields ds ls names → AreFields ds ks names
fields_layouts ds ls ks names f = record { world = record { distinct = f.world.distinct; fit = f.world.fit }; listed = f.listed }

pub map_take : {A B : Type 0} (g : A → B) (n : ℕ) (xs : List A) → map g (take n xs) ≡ take n (map g xs)
map_take g zero xs = refl
map_take g (suc n) [] = refl
map_take g (suc n) (x ∷ xs) = ap (λ ys. g x ∷ ys) (map_take g n xs)

pub fields_take : (ds : List Definition) (ls ks : List Layout) (names : List ℕ) (n : ℕ) → AreFields ds ls names → AreFields (take n ds) ks (take n names)
fields_take ds ls ks names n f = record {
  world = record {
    distinct = subst (λ ns. IsDistinct nat_eq ns) (sym (map_take name_in n ds)) (distinct_take n (names_in ds) f.world.distinct);
    fit = All-take FitsTable n ds f.world.fit;
  };
  listed = ap (take n) f.listed ∙ sym (map_take name_in n ds);
}

pub layouts_take : (n : ℕ) (ls : List Layout) → map fields_of (take n ls) ≡ take n (map fields_of ls)
layouts_take n ls = map_take fields_of n ls

pub layouts_push : (ls : List Layout) (l : Layout) → map fields_of (ls ++ l ∷ []) ≡ map fields_of ls ++ fields_of l ∷ []
layouts_push ls l = map-append fields_of ls (l ∷ [])

none_some : {n : ℕ} → None ≡ Some n → ⊥
none_some h = cc

some_is : {a b : ℕ} → Some a ≡ Some b → a ≡ b
some_is h = cc

names_set : (ds : List Definition) (n : ℕ) (d : Definition) → slice_get (names_in ds) n ≡ Some (name_in d) → names_in (set ds n d) ≡ names_in ds
names_set [] n d h = refl
names_set (e ∷ ds) zero d h = ap (λ m. m ∷ names_in ds) (sym (some_is h))
names_set (e ∷ ds) (suc n) d h = ap (λ ms. name_in e ∷ ms) (names_set ds n d h)

pub fields_set : (ds : List Definition) (ls : List Layout) (names : List ℕ) (n : ℕ) (d : Definition) → AreFields ds ls names → slice_get (names_in ds) n ≡ Some (name_in d) → FitsTable d
    → AreFields (set ds n d) ls names
fields_set ds ls names n d f same fits = record {
  world = record {
    distinct = subst (λ ns. IsDistinct nat_eq ns) (sym (names_set ds n d same)) f.world.distinct;
    fit = All-set FitsTable ds n d fits f.world.fit;
  };
  listed = f.listed ∙ sym (names_set ds n d same);
}

pub within_names : (ds : List Definition) (n x : ℕ) → slice_get (names_in ds) n ≡ Some x → n < length ds
within_names [] n x h = absurd (none_some h)
within_names (d ∷ ds) zero x h = omega arith
within_names (d ∷ ds) (suc n) x h = let l : n < length ds = within_names ds n x h in omega (arith, l)

-- ---- in a heap

pub seen_names : (h : Objects) (ds : List Definition) → map worlds.definition_name (seen_definitions h ds) ≡ names_in ds
seen_names h [] = refl
seen_names h (d ∷ ds) = rw (seen-name h d, seen_names h ds) refl

get_map : {A B : Type 0} (g : A → B) (xs : List A) (n : ℕ) → slice_get (map g xs) n ≡ option_map g (slice_get xs n)
get_map g [] n = refl
get_map g (x ∷ xs) zero = refl
get_map g (x ∷ xs) (suc n) = get_map g xs n

get_there : (h : Objects) (ds : List Definition) (o : Option ℕ) → option_and_then (slice_get (seen_definitions h ds)) o ≡ option_map (seen_definition h) (option_and_then (slice_get ds) o)
get_there h ds None = refl
get_there h ds (Some n) = get_map (seen_definition h) ds n

-- the definition of a name is the one that stands at its number
pub definition_at : (h : Objects) (w : Content) (x : ℕ) → worlds.definition (seen_world h w) x ≡ option_map (seen_definition h) (option_and_then (slice_get w.definitions) (number_of w x))
definition_at h w x =
    found_at worlds.definition_name x (seen_world h w)
    ∙ (ap (λ ns. option_and_then (slice_get (seen_world h w)) (position (nat_eq x) ns)) (seen_names h w.definitions)
    ∙ get_there h w.definitions (number_of w x))

-- ---- once it has changed

pub map_set : {A B : Type 0} (g : A → B) (xs : List A) (n : ℕ) (x : A) → map g (set xs n x) ≡ set (map g xs) n (g x)
map_set g [] n x = refl
map_set g (y ∷ xs) zero x = refl
map_set g (y ∷ xs) (suc n) x = ap (λ ys. g y ∷ ys) (map_set g xs n x)

pub added_name : (w : Content) (d : Definition) (x : ℕ)
    → number_of (with_definition w d) x ≡ option_or (number_of w x) (if nat_eq x (name_in d) then Some (length w.definitions) else None)
added_name w d x =
    ap (position (nat_eq x)) (map-append name_in w.definitions (d ∷ []))
    ∙ (position-push (nat_eq x) (names_in w.definitions) (name_in d)
    ∙ ap (λ n. option_or (number_of w x) (if nat_eq x (name_in d) then Some n else None)) (length-map w.definitions name_in))
