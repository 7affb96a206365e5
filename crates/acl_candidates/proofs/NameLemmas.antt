-- Functions in a world by their names.
use Rattle.std.specs.Prelude.{◌≡◌, ℕ, zero, suc, ◌<◌, ◌≤◌, List, [], ◌∷◌, ◌++◌, length, map, None, nat_eq, refl}
use Rattle.std.specs.List.{All, IsDistinct}
use Rattle.std.proofs.Common.{sym, ap, ◌∙◌, subst, get_or, append_assoc, arith}
use Rattle.std.proofs.lemmas.List.{append-nil}
use Rattle.model_terms.specs.Worlds as worlds
use Rattle.model_stobjs.specs.Heads.{name_in_use}
use Rattle.model_events.specs.Functions as written
use Rattle.model_events.specs.Functions.{with_names}
use Rattle.acl_heap.specs.Objects.{Objects}
use Rattle.acl_terms.specs.declared.definition.Definition.{Definition}
use Rattle.acl_terms.specs.Definitions.{seen_definitions, definitions_reach, FitsTable}
use Rattle.acl_worlds.specs.Contents.{Content, IsWorld, seen_world, WorldLies, names_in}
use Rattle.acl_drafts.specs.declared.draft.Draft.{Draft}
use Rattle.acl_drafts.specs.Drafts.{seen_drafts}
use Rattle.acl_definitions.specs.Added.{with_definitions}
use Rattle.acl_definitions.proofs.LawLemmas.{are_added}
use Rattle.acl_candidates.specs.Names.{named, with_named, names_of}

-- ---- entries in order

pub entries_more : (entries : List Definition) (ds rest others : List Draft) (d : Draft) → entries ++ map named rest ≡ map named ds → rest ≡ d ∷ others
    → (entries ++ named d ∷ []) ++ map named others ≡ map named ds
entries_more entries ds rest others d e s = append_assoc entries (named d ∷ []) (map named others) ∙ (ap (λ xs. entries ++ map named xs) (sym s) ∙ e)

pub entries_end : (entries : List Definition) (ds rest : List Draft) → entries ++ map named rest ≡ map named ds → length rest ≡ 0 → entries ≡ map named ds
entries_end entries ds [] e n = sym (append-nil entries) ∙ e
entries_end entries ds (d ∷ rest) e n = absurd (omega (arith, n))

-- ---- what they are

entries_seen : (h : Objects) (ds : List Draft) → seen_definitions h (map named ds) ≡ map (λ (d : written.Draft). worlds.Named d.name d.formals) (seen_drafts h ds)
entries_seen h [] = refl
entries_seen h (d ∷ ds) = rw (entries_seen h ds) refl

entries_named : (ds : List Draft) → names_in (map named ds) ≡ names_of ds
entries_named [] = refl
entries_named (d ∷ ds) = rw (entries_named ds) refl

all_fit : (ds : List Draft) (k : ℕ) (d : Definition) → k < length (map named ds) → FitsTable (get_or (map named ds) k d)
all_fit [] k d l = absurd (omega (arith, l))
all_fit (x ∷ ds) zero d l = tt
all_fit (x ∷ ds) (suc k) d l = all_fit ds k d (omega (arith, l))

none_reach : (ds : List Draft) (n : ℕ) → definitions_reach (map named ds) ≤ n
none_reach [] n = omega arith
none_reach (d ∷ ds) n = let r : definitions_reach (map named ds) ≤ n = none_reach ds n in omega (arith, r)

reach_with : (ws : List Definition) (ds : List Draft) (n : ℕ) → definitions_reach ws ≤ n → definitions_reach (ws ++ map named ds) ≤ n
reach_with [] ds n l = none_reach ds n
reach_with (w ∷ ws) ds n l = let r : definitions_reach (ws ++ map named ds) ≤ n = reach_with ws ds n (omega (arith, l)) in omega (arith, l, r)

-- ---- a world with them

pub entries_distinct : (h : Objects) (w : Content) (ds : List Draft) (es : List Definition) → IsWorld w → name_in_use (seen_world h w) (names_of ds) ≡ None → es ≡ map named ds
    → IsDistinct nat_eq (names_in (w.definitions ++ es))
entries_distinct h w ds es i n e =
    subst (λ xs. IsDistinct nat_eq (names_in (w.definitions ++ xs))) (sym e)
    (are_added.fresh h w (map named ds) i (ap (λ xs. name_in_use (seen_world h w) xs) (entries_named ds) ∙ n))

pub entries_fit : (ds : List Draft) (es : List Definition) → es ≡ map named ds → All FitsTable es
entries_fit ds es e = subst (λ xs. All FitsTable xs) (sym e) (λ k d l. all_fit ds k d l)

pub entered_is : (w v : Content) (ds : List Draft) (es : List Definition) → v ≡ with_definitions w es → es ≡ map named ds → v ≡ with_named w ds
entered_is w v ds es e s = e ∙ ap (λ xs. with_definitions w xs) s

pub named_seen : (h : Objects) (w : Content) (ds : List Draft) → seen_world h (with_named w ds) ≡ with_names (seen_world h w) (seen_drafts h ds)
named_seen h w ds = are_added.seen h w (map named ds) ∙ ap (λ xs. seen_world h w ++ xs) (entries_seen h ds)

pub entered_seen : (h : Objects) (w v : Content) (ds : List Draft) (es : List Definition) → v ≡ with_definitions w es → es ≡ map named ds
    → seen_world h v ≡ with_names (seen_world h w) (seen_drafts h ds)
entered_seen h w v ds es e s = ap (λ (x : Content). seen_world h x) (entered_is w v ds es e s) ∙ named_seen h w ds

pub named_lies : (h : Objects) (w v : Content) (ds : List Draft) → v ≡ with_named w ds → WorldLies h w → WorldLies h v
named_lies h w v ds e l = subst (λ (x : Content). WorldLies h x) (sym e) (reach_with w.definitions ds (length h) l)
