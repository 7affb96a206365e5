-- A reader goes on where it stopped.
use Rattle.std.specs.Prelude.{◌≡◌, ℕ, ◌+◌, ◌-◌, ◌≤◌, List, [], length, take, drop, Option, Some, None, Ok, refl}
use Rattle.std.proofs.Common.{sym, ap, ◌∙◌, arith}
use Rattle.std.proofs.lemmas.List.{take-append-drop, drop-drop, take_all, take_rest, length-drop}
use Rattle.model_symbols.specs.Symbols.{QualifiedName, Table}
use Rattle.model_text.specs.Token.{Packages}
use Rattle.model_text.specs.Next.{State, Goes, run, after, nothing_read, answer, ended_step, next_at}
use Rattle.model_text.proofs.RunLemmas.{run_append}
use Rattle.acl_base.specs.declared.PkgId.{PkgId}
use Rattle.acl_base.specs.declared.Word.{Word}
use Rattle.acl_heap.specs.Objects.{Objects}
use Rattle.acl_read_scan.specs.declared.Built.{Built}
use Rattle.acl_read_scan.specs.Built.{state_at, IsBuilt, packages_of}
use Rattle.acl_read.specs.declared.Reader.{Reader}
use Rattle.acl_read.specs.Reading.{unread, offset_of, has_ended, Fits, HasBuiltNothing, IsReady, IsFresh, Takes, next_of}

pub run_resumed : (p : Packages) (u s : State) (bytes : List ℕ) (from scanned : ℕ) → from ≤ scanned
    → run p u (take (scanned - from) (drop from bytes)) ≡ Goes s
    → run p u (drop from bytes) ≡ run p s (drop scanned bytes)
run_resumed p u s bytes from scanned l e =
    let rest = drop from bytes in
    let k = scanned - from in
    let n : from + k ≡ scanned = omega arith in
    ap (run p u) (sym (take-append-drop k rest))
    ∙ (run_append p u (take k rest) (drop k rest)
    ∙ (ap (λ r. after r (λ t. run p t (drop k rest))) e
    ∙ ap (run p s) (drop-drop k from bytes ∙ ap (λ m. drop m bytes) n)))

-- what the code passes on are the bytes that it has not scanned
pub passed_on : (bytes slice : List ℕ) (scanned : ℕ) → slice ≡ bytes → take (length slice - scanned) (drop scanned slice) ≡ drop scanned bytes
passed_on bytes slice scanned e = take_rest slice scanned ∙ ap (drop scanned) e

-- what stands first, from where the reader has come
pub next_resumed : (start : List QualifiedName) (t : Table) (current : PkgId) (r : Reader) (slice : List ℕ) → r.from ≤ r.scanned → slice ≡ r.bytes.items → Fits start t current r
    → next_of start t current r ≡ answer r.ended (ended_step (packages_of t current) r.ended (run (packages_of t current) (state_at t r.built) (take (length slice - r.scanned) (drop r.scanned slice))))
unfolding next_at
next_resumed start t current r slice l q f =
    ap (λ s. answer r.ended (ended_step (packages_of t current) r.ended s))
    (run_resumed (packages_of t current) (nothing_read start (offset_of r)) (state_at t r.built) r.bytes.items r.from r.scanned l f.leads
    ∙ ap (run (packages_of t current) (state_at t r.built)) (sym (passed_on r.bytes.items slice r.scanned q)))

-- the packages are the same
pub next_same : (start : List QualifiedName) (t u : Table) (current : PkgId) (r : Reader) → u.packages ≡ t.packages → next_of start u current r ≡ next_of start t current r
next_same start t u current r e = ap (λ ps. next_at ps current.0 start (offset_of r) (unread r) (has_ended r)) e

-- all the unread bytes are scanned
pub all_scanned : (bytes : List ℕ) (from n : ℕ) → n ≡ length bytes → take (n - from) (drop from bytes) ≡ drop from bytes
all_scanned bytes from n e = take_all (n - from) (drop from bytes) (omega (arith, length-drop from bytes, e))

-- what is left behind a form
pub left_behind : (bytes : List ℕ) (from k m : ℕ) → m ≡ from + k → drop m bytes ≡ drop k (drop from bytes)
left_behind bytes from k m e = ap (λ n. drop n bytes) e ∙ sym (drop-drop k from bytes)

fresh_built : (t : Table) (b : Built) → IsFresh b → b.at ≤ 67108864 → IsBuilt t b
fresh_built t b f l = record {
  opens = record {
    open_parts = rw f.lexemes refl;
    shape = rw (f.frames, f.lexemes) refl;
    known = rw f.lexemes tt;
  };
  deep = rw f.inside (omega arith);
  within = l;
}

fresh_state : (t : Table) (b : Built) → IsFresh b → nothing_read t.symbols b.at ≡ state_at t b
fresh_state t b f = rw (f.lexemes, f.inside, f.token, f.first) refl

none_taken : (bytes : List ℕ) (n m : ℕ) → n ≡ m → take (n - m) bytes ≡ []
none_taken bytes n m e = let z : n - m ≡ 0 = omega (arith, e) in ap (λ k. take k bytes) z

-- a reader that has built nothing fits all
pub fresh_fits : (r : Reader) → IsFresh r.built → r.built.at ≤ 67108864 → r.taken ≡ r.built.at → r.scanned ≡ r.from → HasBuiltNothing r
fresh_fits r f l e s = λ t current. record {
  built = fresh_built t r.built f l;
  place = omega (arith, e, s);
  leads = ap (run (packages_of t current) (nothing_read t.symbols (offset_of r))) (none_taken (unread r) r.scanned r.from s)
      ∙ ap Goes (ap (nothing_read t.symbols) e ∙ fresh_state t r.built f);
}

-- ---- ready for the next call

pub ready_still : (r s : Reader) → s.fault ≡ r.fault → ((start : List QualifiedName) (t : Table) (current : PkgId) → Fits start t current r → Fits start t current s)
    → (t : Table) (current : PkgId) → IsReady t current r → IsReady t current s
ready_still r s e h t current ready = λ none. let f = ready (sym e ∙ none) in (f.0, h f.0 t current f.1)

pub ready_taken : (start : List QualifiedName) (t : Table) (h : Objects) (current : PkgId) (old new : Reader) (found : Option Word) → Takes start t h current old new (Ok found) → IsReady t current new
ready_taken start t h current old new (Some w) k = λ none. (t.symbols, k.4 t current)
ready_taken start t h current old new None k = λ none. (start, k.3)
