-- What the reader answers. Assumes nothing.
use Rattle.std.proofs.Common.{◌≡◌, ℕ, ◌<◌, ◌≤◌, false, List, ◌++◌, map, length, drop, is_ok, Ok, Err, Decides, Result, sym, refl, ap, ◌∙◌, subst, arith}
use Rattle.std.proofs.lemmas.List.{take_all, length-map}
use Rattle.faults.specs.declared.Fault.{Fault}
use Rattle.faults.specs.declared.Fault.TheVariants.{TooLarge, ShortList}
use Rattle.faults.specs.declared.Layer.TheVariants.{Text}
use Rattle.symbols.specs.NameRows.{name_row}
use Rattle.symbols.specs.declared.name_rows.NameRow.{NameRow}
use Rattle.grammar.specs.Reads.{Cause, strange_byte, unexpected, long_name, too_deep, too_many, good, bad, Whole}
use Rattle.grammar.proofs.Built.{built}
use Rattle.grammar.proofs.Complete.{refused_at}
use Rattle.grammar.proofs.Names.{names_are}
use Rattle.grammar.proofs.Outcomes.{one_whole, few}
use Rattle.grammar.proofs.Room.{room}
use Rattle.grammar.proofs.Sound.{sound_whole}
use Rattle.grammar.proofs.Unique.{one_reading}
use Rattle.text_reader.specs.declared.Counts.{Counts}
use Rattle.text_reader.specs.declared.output.Output.{Output}
use Rattle.text_reader.specs.Answer.{fault_of, Fits, Refused, few_codes, few_names, long_text, at_strange_byte, at_unexpected, at_long_name, at_too_deep, at_too_many, Readable, Taken, Answer, OneAnswer}
use Rattle.text_reader.specs.Output.{Holds}

-- what was read, and stands in the lists before what stood there
pub taken : (t cs : List ℕ) (rs : List NameRow) (o : Output) (j : ℕ) (w : List ℕ) (ns : List (List ℕ)) (r : Counts) (cs' : List ℕ) (rs' : List NameRow) →
    Fits t cs rs → Whole t (good j w ns) → j ≤ length t → Holds o w ns → r.codes ≡ length o.codes.items → r.names ≡ length o.rows.items →
    cs' ≡ o.codes.items ++ drop r.codes cs → rs' ≡ o.rows.items ++ drop r.names rs → Taken t cs rs r cs' rs' w ns
taken t cs rs o j w ns r cs' rs' f g i h x y a b =
    let m = sound_whole t i g in
    let k = few g in
    let all : o.codes.items ≡ w = h.kept ∙ take_all 1280 w (room m k) in
    let codes : r.codes ≡ length w = x ∙ ap length all in
    let names : r.names ≡ length ns = y ∙ ap length h.named ∙ length-map ns name_row in
    record {
      fits = f;
      within = record { model = m; few = k };
      only = λ n d v ms e. one_reading t 32 16 n d w v ns ms m e;
      tree = built m;
      are_names = names_are m;
      codes = codes;
      names = names;
      wrote = a ∙ ap (λ (z : List ℕ). z ++ drop r.codes cs) all ∙ ap (λ (z : ℕ). w ++ drop z cs) codes;
      named = b ∙ ap (λ (z : List NameRow). z ++ drop r.names rs) h.named ∙ ap (λ (z : ℕ). map name_row ns ++ drop z rs) names;
    }

-- the fault of a refused token
pub refused_by : (t cs : List ℕ) (rs : List NameRow) (c : Cause) (k : ℕ) (x : Fault) → Fits t cs rs → Whole t (bad c k) →
    x ≡ fault_of c k → Refused t cs rs x
refused_by t cs rs c k x f r e = subst (λ (y : Fault). Refused t cs rs y) (sym e) (go c r)
  where
    go : (c : Cause) → Whole t (bad c k) → Refused t cs rs (fault_of c k)
    go strange_byte r = at_strange_byte f (refused_at t strange_byte k r)
    go unexpected r = at_unexpected f (refused_at t unexpected k r)
    go long_name r = at_long_name f (refused_at t long_name k r)
    go too_deep r = at_too_deep f (refused_at t too_deep k r)
    go too_many r = at_too_many f (refused_at t too_many k r)

-- what is refused is no model within the limits, or the lists are too short
not_readable : (t cs : List ℕ) (rs : List NameRow) (x : Fault) → Refused t cs rs x → Readable t cs rs → ⊥
not_readable t cs rs x (few_codes h) r = let f = r.0 in omega (arith, f.codes)
not_readable t cs rs x (few_names g h) r = let f = r.0 in omega (arith, f.names)
not_readable t cs rs x (long_text g h l) r = let f = r.0 in omega (arith, f.short)
not_readable t cs rs x (at_strange_byte f h) r = h.refutes 32 16 r.1.0 r.1.1 r.1.2.model
not_readable t cs rs x (at_unexpected f h) r = h.refutes 32 16 r.1.0 r.1.1 r.1.2.model
not_readable t cs rs x (at_long_name f h) r = omega (arith, h.refutes 32 16 r.1.0 r.1.1 r.1.2.model)
not_readable t cs rs x (at_too_deep f h) r = omega (arith, h.refutes 32 16 r.1.0 r.1.1 r.1.2.model)
not_readable t cs rs x (at_too_many f h) r = omega (arith, h.refutes 32 16 r.1.0 r.1.1 r.1.2.model, r.1.2.few)

-- a text is read exactly when it is a model within the limits and the lists are long enough
pub exact : (t cs : List ℕ) (rs : List NameRow) (r : Result Counts Fault) (cs' : List ℕ) (rs' : List NameRow) →
    Answer t cs rs r cs' rs' → Decides (is_ok r) (Readable t cs rs)
exact t cs rs (Ok r) cs' rs' a = (λ e. (a.2.fits, (a.0, a.1, a.2.within)), λ x. refl)
exact t cs rs (Err x) cs' rs' a = (λ e. absurd (let z : ◌≡◌ {A = ℕ} 0 1 = cc in omega arith), λ r. absurd (not_readable t cs rs x a.0 r))

-- what is refused is not readable
pub unreadable : {t cs : List ℕ} {rs : List NameRow} {x : Fault} → Refused t cs rs x → Decides false (Readable t cs rs)
unreadable {t} {cs} {rs} {x} r = exact t cs rs (Err x) cs rs (r, refl, refl)

-- the list of codes is too short
record Few (cs : List ℕ) (x : Fault) : Type 0 where
  short : length cs < 1280
  is : x ≡ ShortList Text 1280

-- the list of names is too short
record FewNames (cs : List ℕ) (rs : List NameRow) (x : Fault) : Type 0 where
  codes : 1280 ≤ length cs
  short : length rs < 64
  is : x ≡ ShortList Text 64

-- the text is too long
record LongText (t cs : List ℕ) (rs : List NameRow) (x : Fault) : Type 0 where
  codes : 1280 ≤ length cs
  names : 64 ≤ length rs
  long : 65535 < length t
  is : x ≡ TooLarge Text 65535

-- a token is refused
record Token (t cs : List ℕ) (rs : List NameRow) (x : Fault) : Type 0 where
  fits : Fits t cs rs
  cause : Cause
  place : ℕ
  whole : Whole t (bad cause place)
  is : x ≡ fault_of cause place

-- what a text is refused for
data Judged (t cs : List ℕ) (rs : List NameRow) (x : Fault) : Type 0 where
  by_codes : Few cs x → Judged t cs rs x
  by_names : FewNames cs rs x → Judged t cs rs x
  by_length : LongText t cs rs x → Judged t cs rs x
  by_token : Token t cs rs x → Judged t cs rs x

judged : (t cs : List ℕ) (rs : List NameRow) (x : Fault) → Refused t cs rs x → Judged t cs rs x
judged t cs rs x (few_codes h) = by_codes (record { short = h; is = refl })
judged t cs rs x (few_names g h) = by_names (record { codes = g; short = h; is = refl })
judged t cs rs x (long_text g h l) = by_length (record { codes = g; names = h; long = l; is = refl })
judged t cs rs x (at_strange_byte {k = k} f h) = by_token (record { fits = f; cause = strange_byte; place = k; whole = h.reads; is = refl })
judged t cs rs x (at_unexpected {k = k} f h) = by_token (record { fits = f; cause = unexpected; place = k; whole = h.reads; is = refl })
judged t cs rs x (at_long_name {k = k} f h) = by_token (record { fits = f; cause = long_name; place = k; whole = h.reads; is = refl })
judged t cs rs x (at_too_deep {k = k} f h) = by_token (record { fits = f; cause = too_deep; place = k; whole = h.reads; is = refl })
judged t cs rs x (at_too_many {k = k} f h) = by_token (record { fits = f; cause = too_many; place = k; whole = h.reads; is = refl })

one_judged : (t cs : List ℕ) (rs : List NameRow) (x x' : Fault) → Judged t cs rs x → Judged t cs rs x' → x' ≡ x
one_judged t cs rs x x' (by_codes a) (by_codes b) = b.is ∙ sym a.is
one_judged t cs rs x x' (by_codes a) (by_names b) = absurd (omega (arith, a.short, b.codes))
one_judged t cs rs x x' (by_codes a) (by_length b) = absurd (omega (arith, a.short, b.codes))
one_judged t cs rs x x' (by_codes a) (by_token b) = absurd (omega (arith, a.short, b.fits.codes))
one_judged t cs rs x x' (by_names a) (by_codes b) = absurd (omega (arith, b.short, a.codes))
one_judged t cs rs x x' (by_names a) (by_names b) = b.is ∙ sym a.is
one_judged t cs rs x x' (by_names a) (by_length b) = absurd (omega (arith, a.short, b.names))
one_judged t cs rs x x' (by_names a) (by_token b) = absurd (omega (arith, a.short, b.fits.names))
one_judged t cs rs x x' (by_length a) (by_codes b) = absurd (omega (arith, b.short, a.codes))
one_judged t cs rs x x' (by_length a) (by_names b) = absurd (omega (arith, b.short, a.names))
one_judged t cs rs x x' (by_length a) (by_length b) = b.is ∙ sym a.is
one_judged t cs rs x x' (by_length a) (by_token b) = absurd (omega (arith, a.long, b.fits.short))
one_judged t cs rs x x' (by_token a) (by_codes b) = absurd (omega (arith, b.short, a.fits.codes))
one_judged t cs rs x x' (by_token a) (by_names b) = absurd (omega (arith, b.short, a.fits.names))
one_judged t cs rs x x' (by_token a) (by_length b) = absurd (omega (arith, b.long, a.fits.short))
one_judged t cs rs x x' (by_token a) (by_token b) =
    let z = one_whole a.whole b.whole in
    let c : b.cause ≡ a.cause = cc in
    let k : b.place ≡ a.place = cc in
    b.is ∙ ap (λ (y : Cause). fault_of y b.place) c ∙ ap (λ (y : ℕ). fault_of a.cause y) k ∙ sym a.is

-- there is one answer
pub one_answer : OneAnswer
one_answer t cs rs (Ok r) (Ok r') c c' n n' (w, ns, a) (w', ns', b) =
    let z = a.only 32 16 w' ns' b.within.model in
    let e : w' ≡ w = z.0 in
    let f : ns' ≡ ns = z.1 in (
      go r r' (b.codes ∙ ap length e ∙ sym a.codes) (b.names ∙ ap (λ (y : List (List ℕ)). length y) f ∙ sym a.names),
      b.wrote ∙ ap (λ (y : List ℕ). y ++ drop (length y) cs) e ∙ sym a.wrote,
      b.named ∙ ap (λ (y : List (List ℕ)). map name_row y ++ drop (length y) rs) f ∙ sym a.named,
    )
  where
    go : (r r' : Counts) → r'.codes ≡ r.codes → r'.names ≡ r.names → ◌≡◌ {A = Result Counts Fault} (Ok r') (Ok r)
    go r r' p q = ap (λ (x : ℕ). Ok (record { codes = x; names = r'.names })) p ∙ ap (λ (x : ℕ). Ok (record { codes = r.codes; names = x })) q
one_answer t cs rs (Ok r) (Err x) c c' n n' (w, ns, a) b = absurd (not_readable t cs rs x b.0 (a.fits, (w, ns, a.within)))
one_answer t cs rs (Err x) (Ok r) c c' n n' a (w, ns, b) = absurd (not_readable t cs rs x a.0 (b.fits, (w, ns, b.within)))
one_answer t cs rs (Err x) (Err x') c c' n n' a b =
    let z = one_judged t cs rs x x' (judged t cs rs x a.0) (judged t cs rs x' b.0) in
    (ap (λ (y : Fault). Err y) z, b.1 ∙ sym a.1, b.2 ∙ sym a.2)
