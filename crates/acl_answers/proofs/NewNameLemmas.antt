-- The names of a definition's fields, one field after another.
use Rattle.std.specs.Prelude.{◌≡◌, ℕ, ◌+◌, ◌<◌, List, [], ◌∷◌, ◌++◌, length, map, take, drop, refl}
use Rattle.std.proofs.Common.{sym, ap, ◌∙◌, subst, arith, get_or}
use Rattle.std.proofs.lemmas.List.{append_assoc, append-nil, take_more, drop_more, map_push, take-append-drop}
use Rattle.model_symbols.specs.Symbols.{QualifiedName, Package, Table}
use Rattle.model_symbols.specs.Growth.{Extends}
use Rattle.model_output_so_far.specs.Sessions as model
use Rattle.model_output_so_far.specs.Events.{names_of, field_names, fields_names, new_names, new_field, recognizer, creator, updater}
use Rattle.acl_base.specs.declared.SymId.{SymId}
use Rattle.acl_forms.specs.Growth.{symbol_later}
use Rattle.acl_commands.specs.declared.definitions.NewField.{NewField}
use Rattle.acl_commands.specs.Views.{field_view, field_views}
use Rattle.acl_commands.specs.Whole as wanted
use Rattle.acl_answers.specs.declared.stobj.Field.{Field}
use Rattle.acl_answers.specs.Views as views
use Rattle.acl_answers.specs.Views.{name_of, fields_view}
use Rattle.acl_answers.specs.Whole.{IsKnown, IsKnownField, AreKnownFields}
use Rattle.std.proofs.lemmas.List.Elements.{All-nil}
use Rattle.acl_answers.proofs.AllLemmas.{all_first, all_rest, all_both, all_one, all_map}
use Rattle.acl_answers.specs.Making.{Makes, IsFull, HasFields}
use Rattle.acl_answers.proofs.MakingLemmas.{made_then, full_then, full_more}

-- all names of a definition with these fields
abbrev pub all_names : Table → SymId → List NewField → List QualifiedName
all_names t s fields = new_names t.packages (name_of t s) (names_of (field_views t fields))

fields_names_both : (ps : List Package) (xs ys : List QualifiedName) → fields_names ps (xs ++ ys) ≡ fields_names ps xs ++ fields_names ps ys
fields_names_both ps [] ys = refl
fields_names_both ps (x ∷ xs) ys = ap (λ (l : List QualifiedName). field_names ps x ++ l) (fields_names_both ps xs ys)

views_both : (t : Table) (xs ys : List NewField) → names_of (field_views t (xs ++ ys)) ≡ names_of (field_views t xs) ++ names_of (field_views t ys)
views_both t [] ys = refl
views_both t (x ∷ xs) ys = ap (λ (l : List QualifiedName). name_of t x.name ∷ l) (views_both t xs ys)

names_of_both : (t : Table) (s : SymId) (xs ys : List NewField) → all_names t s (xs ++ ys) ≡ all_names t s xs ++ fields_names t.packages (names_of (field_views t ys))
names_of_both t s xs ys =
    ap (λ (l : List QualifiedName). new_names t.packages (name_of t s) l) (views_both t xs ys)
    ∙ ap (λ (l : List QualifiedName). name_of t s ∷ recognizer t.packages (name_of t s) ∷ creator t.packages (name_of t s) ∷ l)
    (fields_names_both t.packages (names_of (field_views t xs)) (names_of (field_views t ys)))

field_known : (t : Table) (fields : List NewField) (i : ℕ) (f d : NewField) → wanted.AreKnownFields t fields → i < length fields → f ≡ get_or fields i d → IsKnown t f.name
field_known t fields i f d a l e = subst (λ (h : NewField). IsKnown t h.name) (sym e) (a i d l)

-- the names of a field, in the table that has grown
names_then : (t0 t : Table) → Extends t0 t → t.packages ≡ t0.packages → (f : SymId) → IsKnown t0 f → field_names t.packages (name_of t f) ≡ field_names t0.packages (name_of t0 f)
names_then t0 t g p f k = rw (p, symbol_later g f.0 k) refl

three_pushed : (ids : List SymId) (a b c : SymId) → ((ids ++ a ∷ []) ++ b ∷ []) ++ c ∷ [] ≡ ids ++ (a ∷ b ∷ c ∷ [])
three_pushed ids a b c = append_assoc (ids ++ a ∷ []) (b ∷ []) (c ∷ []) ∙ append_assoc ids (a ∷ []) (b ∷ c ∷ [])

-- the names of one field more
pub names_more : (t0 t t' : Table) (s : SymId) (fields : List NewField) (i : ℕ) (f d : NewField) (ids more : List SymId) (r u : SymId) → wanted.AreKnownFields t0 fields → i < length fields → f ≡ get_or fields i d
    → Makes t0 t (all_names t0 s (take i fields)) ids → Makes t t' (field_names t.packages (name_of t f.name)) (r ∷ f.name ∷ u ∷ []) → more ≡ ((ids ++ r ∷ []) ++ f.name ∷ []) ++ u ∷ []
    → Makes t0 t' (all_names t0 s (take (i + 1) fields)) more
names_more t0 t t' s fields i f d ids more r u a l e m n p =
    let k = field_known t0 fields i f d a l e in
    let xs = all_names t0 s (take i fields) in
    let ys = field_names t0.packages (name_of t0 f.name) in
    let step : Makes t0 t' (xs ++ ys) (ids ++ (r ∷ f.name ∷ u ∷ [])) =
    made_then t0 t t' xs ys ids (r ∷ f.name ∷ u ∷ []) m (subst (λ (l : List QualifiedName). Makes t t' l (r ∷ f.name ∷ u ∷ [])) (names_then t0 t m.grows m.packages f.name k) n) in
    let names : xs ++ ys ≡ all_names t0 s (take (i + 1) fields) =
    sym (ap (all_names t0 s) (take_more fields i d l ∙ ap (λ (g : NewField). take i fields ++ g ∷ []) (sym e)) ∙ (names_of_both t0 s (take i fields) (f ∷ []) ∙ ap (λ (l : List QualifiedName). xs ++ l) (append-nil ys))) in
    let P : List QualifiedName → Type 0 = λ l. Makes t0 t' l more in
    let Q : List SymId → Type 0 = λ l. Makes t0 t' (xs ++ ys) l in
    subst P names (subst Q (sym (p ∙ three_pushed ids r f.name u)) step)

-- there was no room for them
pub names_full : (t0 t t' : Table) (s : SymId) (fields : List NewField) (i : ℕ) (f d : NewField) (ids : List SymId) → wanted.AreKnownFields t0 fields → i < length fields → f ≡ get_or fields i d
    → Makes t0 t (all_names t0 s (take i fields)) ids → IsFull t t' (field_names t.packages (name_of t f.name)) → IsFull t0 t' (all_names t0 s fields)
names_full t0 t t' s fields i f d ids a l e m n =
    let k = field_known t0 fields i f d a l e in
    let xs = all_names t0 s (take i fields) in
    let ys = field_names t0.packages (name_of t0 f.name) in
    let zs = fields_names t0.packages (names_of (field_views t0 (drop (i + 1) fields))) in
    let step : IsFull t0 t' (xs ++ ys) = full_then t0 t t' xs ys ids m (subst (λ (l : List QualifiedName). IsFull t t' l) (names_then t0 t m.grows m.packages f.name k) n) in
    let names : (xs ++ ys) ++ zs ≡ all_names t0 s fields =
    append_assoc xs ys zs
    ∙ (sym (names_of_both t0 s (take i fields) (f ∷ drop (i + 1) fields))
    ∙ ap (all_names t0 s) (ap (λ (l : List NewField). take i fields ++ l) (ap (λ (g : NewField). g ∷ drop (i + 1) fields) e ∙ sym (drop_more fields i d l)) ∙ take-append-drop i fields)) in
    subst (λ (l : List QualifiedName). IsFull t0 t' l) names (full_more t0 t' (xs ++ ys) zs step)

-- ---- fields

pub views_later : (a b : Table) → Extends a b → (fields : List Field) → AreKnownFields a fields → fields_view b fields ≡ fields_view a fields
views_later a b g [] k = refl
views_later a b g (f ∷ fs) k =
    let l = all_first (IsKnownField a) f fs k in
    rw (symbol_later g f.name.0 l.0, symbol_later g f.updater.0 l.1, views_later a b g fs (all_rest (IsKnownField a) f fs k)) refl

pub fields_later : (a b : Table) → Extends a b → (fields : List Field) → AreKnownFields a fields → AreKnownFields b fields
fields_later a b g fields k = all_map (IsKnownField a) (IsKnownField b) (λ f l. (omega (arith, g.longer, l.0), omega (arith, g.longer, l.1))) fields k

pub wanted_later : (a b : Table) → Extends a b → (fields : List NewField) → wanted.AreKnownFields a fields → field_views b fields ≡ field_views a fields
wanted_later a b g [] k = refl
wanted_later a b g (f ∷ fs) k =
    rw (symbol_later g f.name.0 (all_first (λ (h : NewField). h.name.0 < length a.symbols) f fs k), wanted_later a b g fs (all_rest (λ (h : NewField). h.name.0 < length a.symbols) f fs k)) refl

third : {A : Type 0} (a b c x y z : A) → a ∷ b ∷ c ∷ [] ≡ x ∷ y ∷ z ∷ [] → c ≡ z
third a b c x y z e = cc

second : {A : Type 0} (a b c x y z : A) → a ∷ b ∷ c ∷ [] ≡ x ∷ y ∷ z ∷ [] → b ≡ y
second a b c x y z e = cc

field_is : (a b c d : QualifiedName) → a ≡ c → b ≡ d → (let f : model.Field = record { name = a; updater = b } in f) ≡ record { name = c; updater = d }
field_is a b c d p q = rw (p, q) refl

-- one field more
pub fields_more : (t0 t t' : Table) (fields : List NewField) (i : ℕ) (f d : NewField) (made more : List Field) (r u : SymId) → wanted.AreKnownFields t0 fields → i < length fields → f ≡ get_or fields i d
    → Extends t0 t → t.packages ≡ t0.packages → HasFields t (field_views t0 (take i fields)) made → Makes t t' (field_names t.packages (name_of t f.name)) (r ∷ f.name ∷ u ∷ [])
    → more ≡ made ++ record { name = f.name; updater = u } ∷ [] → HasFields t' (field_views t0 (take (i + 1) fields)) more
fields_more t0 t t' fields i f d made more r u a l e g p h n q =
    let k = field_known t0 fields i f d a l e in
    let here : name_of t f.name ≡ name_of t0 f.name = symbol_later g f.name.0 k in
    let x : Field = record { name = f.name; updater = u } in
    let name : name_of t' f.name ≡ name_of t0 f.name =
    second (name_of t' r) (name_of t' f.name) (name_of t' u) (recognizer t.packages (name_of t f.name)) (name_of t f.name) (updater t.packages (name_of t f.name)) n.named ∙ here in
    let up : name_of t' u ≡ updater t'.packages (name_of t0 f.name) =
    third (name_of t' r) (name_of t' f.name) (name_of t' u) (recognizer t.packages (name_of t f.name)) (name_of t f.name) (updater t.packages (name_of t f.name)) n.named
    ∙ (ap (updater t.packages) here ∙ ap (λ (ps : List Package). updater ps (name_of t0 f.name)) (sym n.packages)) in
    let last : views.field_view t' x ≡ new_field t'.packages (field_view t0 f) = field_is (name_of t' f.name) (name_of t' u) (name_of t0 f.name) (updater t'.packages (name_of t0 f.name)) name up in
    let before : fields_view t' made ≡ map (new_field t'.packages) (field_views t0 (take i fields)) =
    views_later t t' n.grows made h.known ∙ (h.are ∙ ap (λ (ps : List Package). map (new_field ps) (field_views t0 (take i fields))) (sym n.packages)) in
    let wanted_more : field_views t0 (take (i + 1) fields) ≡ field_views t0 (take i fields) ++ field_view t0 f ∷ [] =
    ap (field_views t0) (take_more fields i d l ∙ ap (λ (g : NewField). take i fields ++ g ∷ []) (sym e)) ∙ map_push (field_view t0) (take i fields) f in
    let all : fields_view t' (made ++ x ∷ []) ≡ map (new_field t'.packages) (field_views t0 (take (i + 1) fields)) =
    map_push (views.field_view t') made x
    ∙ (ap (λ (l : List model.Field). l ++ views.field_view t' x ∷ []) before
    ∙ (ap (λ (y : model.Field). map (new_field t'.packages) (field_views t0 (take i fields)) ++ y ∷ []) last
    ∙ (sym (map_push (new_field t'.packages) (field_views t0 (take i fields)) (field_view t0 f)) ∙ ap (map (new_field t'.packages)) (sym wanted_more)))) in
    let P : List Field → Type 0 = λ l. HasFields t' (field_views t0 (take (i + 1) fields)) l in
    subst P (sym q) (record { are = all; known = all_both (IsKnownField t') made (x ∷ []) (fields_later t t' n.grows made h.known) (all_one (IsKnownField t') x (n.known 1 u (omega arith), n.known 2 u (omega arith))) })

pub no_fields : (t : Table) → HasFields t [] []
no_fields t = record { are = refl; known = All-nil (IsKnownField t) }
