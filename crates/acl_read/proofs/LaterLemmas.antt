-- A reader fits a table that has grown.
use Rattle.std.specs.Prelude.{◌≡◌, ℕ, suc, ◌+◌, ◌-◌, ◌<◌, List, [], ◌∷◌, length, take, Bool, true, false, Option, Some, None, slice_get, position, is_some, refl, cond}
use Rattle.std.specs.List.{position_from}
use Rattle.std.specs.Str.{bytes_eq}
use Rattle.std.proofs.Common.{sym, ap, ◌∙◌, arith}
use Rattle.std.proofs.lemmas.Iterator.Adapters.{position_from-zero}
use Rattle.model_symbols.specs.Symbols.{QualifiedName, Package, Table, same_name, number_of, is_known}
use Rattle.model_symbols.specs.Growth.{Extends}
use Rattle.model_symbols.proofs.NameLemmas.{is_known-is, package-Some, package_at-is}
use Rattle.model_text.specs.Parts.{Part}
use Rattle.model_text.specs.Next.{Goes}
use Rattle.model_text_laws.specs.Laws.{Grow, Knows_more}
use Rattle.model_text_laws.proofs.Later.{stays_read}
use Rattle.acl_base.specs.declared.PkgId.{PkgId}
use Rattle.acl_forms.specs.Growth.{package_later}
use Rattle.acl_read_lexemes.specs.Lexemes.{open_parts, parts_of}
use Rattle.acl_read_scan.specs.declared.Built.{Built}
use Rattle.acl_read_scan.specs.Built.{state_at, inside_of, IsBuilt, packages_of}
use Rattle.acl_read_scan.proofs.BuiltLemmas.{put_later, built_later}
use Rattle.acl_read.specs.declared.Reader.{Reader}
use Rattle.acl_read.specs.Reading.{unread, offset_of, Fits, HasBuiltNothing, IsReady}
use Rattle.acl_read.specs.Laws.{KeepsFitting}

-- the first place at which a test passes stays, where what stands at a place stays
module _ {X : Type 0} (p : X → Bool) where
  from_kept : (i : ℕ) (xs ys : List X) (n : ℕ) → ((j : ℕ) (x : X) → slice_get xs j ≡ Some x → slice_get ys j ≡ Some x) → position_from p i xs ≡ Some n → position_from p i ys ≡ Some n
  from_kept i [] ys n k h = cc
  from_kept i (x ∷ xs) [] n k h = let e = k 0 x refl in cc
  from_kept i (x ∷ xs) (y ∷ ys) n k h =
      let f = k 0 x refl in
      let e : y ≡ x = cc in
      ap (λ b. cond b (Some i) (position_from p (i + 1) ys)) (ap p e) ∙ go (p x) h (from_kept (i + 1) xs ys n (λ j z g. k (suc j) z g))
    where
      go : (b : Bool) → cond b (Some i) (position_from p (i + 1) xs) ≡ Some n → (position_from p (i + 1) xs ≡ Some n → position_from p (i + 1) ys ≡ Some n) → cond b (Some i) (position_from p (i + 1) ys) ≡ Some n
      go true h rest = h
      go false h rest = rest h

  position_kept : (xs ys : List X) (n : ℕ) → ((j : ℕ) (x : X) → slice_get xs j ≡ Some x → slice_get ys j ≡ Some x) → position p xs ≡ Some n → position p ys ≡ Some n
  position_kept xs ys n k h = position_from-zero p ys ∙ from_kept 0 xs ys n k (sym (position_from-zero p xs) ∙ h)

-- ---- a table that has grown

packages_grow : (t u : Table) (current : PkgId) → Extends t u → current.0 < length t.packages → Grow (packages_of t current) (packages_of u current)
packages_grow t u current e l = record {
  current = package_later e current.0 l;
  number = λ name n h. position_kept (λ (q : Package). bytes_eq name q.name) t.packages u.packages n (λ j q g. e.same_package j q g) h;
  package_same = λ name n h.
      let f = package-Some t.packages name n h in
      package_at-is u.packages n f.0 (e.same_package n f.0 f.1) ∙ sym (package_at-is t.packages n f.0 f.1);
}

knows_more : (t u : Table) → Extends t u → Knows_more t.symbols u.symbols
knows_more t u e = λ s h. go s (number_of t.symbols s) refl (sym (is_known-is t.symbols s) ∙ h) where
  go : (s : QualifiedName) (o : Option ℕ) → number_of t.symbols s ≡ o → is_some (number_of t.symbols s) ≡ true → is_known u.symbols s ≡ true
  go s None q h = let g : is_some (let o : Option ℕ = None in o) ≡ true = sym (ap is_some q) ∙ h in cc
  go s (Some n) q h = is_known-is u.symbols s ∙ ap is_some (position_kept (same_name s) t.symbols u.symbols n (λ j x g. e.same j x g) q)

-- ---- what has been read

-- what is built says nothing of packages
built_kept : (t u : Table) (b : Built) → Extends t u → IsBuilt t b → IsBuilt u b
built_kept t u b e i =
    let v : Table = record { packages = t.packages; symbols = u.symbols } in
    let f : Extends t v = record { longer = e.longer; same = e.same; more_packages = omega arith; same_package = λ n p h. h } in
    let j = built_later {t = t} {u = v} {b = b} (record { extends = f; packages = refl }) i in
    record { opens = j.opens; deep = j.deep; within = j.within }

state_kept : (t u : Table) (b : Built) → Extends t u → IsBuilt t b
    → Goes (record { parts = parts_of t.symbols b.lexemes.items; inside = inside_of b.inside; token = b.token.items; at = b.at; first = b.first; symbols = u.symbols }) ≡ Goes (state_at u b)
state_kept t u b e i =
    ap (λ (ps : List Part). Goes (record { parts = ps; inside = inside_of b.inside; token = b.token.items; at = b.at; first = b.first; symbols = u.symbols }))
    (sym (ap open_parts (put_later t u b.lexemes.items e i.opens.known)))

pub fits_later : (start : List QualifiedName) (t u : Table) (current : PkgId) (r : Reader) → Fits start t current r → current.0 < length t.packages → Extends t u → Fits u.symbols u current r
fits_later start t u current r f l e = record {
  built = built_kept t u r.built e f.built;
  place = f.place;
  leads = stays_read (packages_of t current) (packages_of u current) start u.symbols (offset_of r) (take (r.scanned - r.from) (unread r)) (state_at t r.built) (packages_grow t u current e l) f.leads (knows_more t u e)
      ∙ state_kept t u r.built e f.built;
}

pub ready_later : (t u : Table) (current : PkgId) (r : Reader) → IsReady t current r → current.0 < length t.packages → Extends t u → IsReady u current r
ready_later t u current r ready l e = λ none. let f = ready none in (u.symbols, fits_later f.0 t u current r f.1 l e)

pub ready_fresh : (t : Table) (current : PkgId) (r : Reader) → HasBuiltNothing r → IsReady t current r
ready_fresh t current r h = λ none. (t.symbols, h t current)

pub keeps_fitting : KeepsFitting
keeps_fitting = record { fits = fits_later; ready = ready_later; fresh = ready_fresh }
