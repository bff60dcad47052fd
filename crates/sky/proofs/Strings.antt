-- A string of a sky: its bit 85 is 0, so it is sent; and a reader gets it back from its symbols.
-- Assumes nothing.
use mathlib.Core.Path.{◌≡◌, refl, sym, ap, ap₂, subst, ◌∙◌}
use mathlib.Core.List.{List}
use Prim.Native.Nat.{ℕ, zero, suc, ◌+◌, ◌-◌, ◌*◌, ◌/◌, ◌%◌, ◌^◌, ◌≤◌, ◌<◌}
use native.Mathlib.Omega.{arith}
use native.Mathlib.Nat.{mod-lt, zero-lt-suc}
use borrow.Author.Tests.{ne_eqb}
use lib.Dec.{eqb, lit≤}
use lib.ListN.{length, get_or}
use Rattle.strings.specs.Number.{bit_of, number_from_bits, bytes_of, bytes_of_string, number_of}
use Rattle.strings.specs.declared.Refusal.{Refusal}
use Rattle.std.specs.Prelude.{Result, Ok, ⊤}
use Rattle.strings.proofs.Digits.{bit_lt, bits_same, from_lt, bit_from}
use Rattle.strings.proofs.Value.{Bytes, string_length, string_number_lem, bit_at}
use Rattle.strings.proofs.Shape.{string_shaped}
use Rattle.strings.proofs.Encode.{encode_stays}
use Rattle.relative.specs.Relative.{read_relative, write_relative}
use Rattle.relative.specs.Polarity.{first_symbol}
use Rattle.relative.specs.Calls.{WritesRelative}
use Rattle.relative.proofs.RelativeCode.{written_lt, first_written, read_written, writes, writes_once}
use Rattle.records.specs.declared.named.Record.{Record}
use Rattle.records.specs.Records.{kind_of, list_of}
use Rattle.records.proofs.RecordLists.{list_long}
use Rattle.layout.specs.Layout.{layout}
use Rattle.words.specs.Values.{first_bad, data_of}
use Rattle.words.specs.Calls.{string_of}
use Rattle.words.proofs.Fits.{kind_data_lt}
use Rattle.superframe.specs.declared.Sky.{Sky}
use Rattle.superframe.specs.Sky.{record_in, frame_at, string_number, sky_string}
use Rattle.superframe.specs.Refused.{lowest_bad}
use Rattle.superframe.proofs.Lowest.{none_told}
use Rattle.superframe.proofs.Encoder.{words_good}
use Rattle.sky.specs.Line.{relative_bytes, symbol_of, lines_of, sky_lines, heard_in}
use Rattle.sky.proofs.Lines.{first_half}

-- ---- bit 85 is 0
record_small : (m : ℕ) (r : Record) → m ≤ 15 → first_bad (layout (kind_of r)) (list_of r) ≡ 0 → string_of m r < 2 ^ 84
unfolding string_of
record_small m r h e =
    let x = m * 2 ^ 80 + data_of (layout (kind_of r)) (list_of r) in
    omega (arith, encode_stays x, kind_data_lt (kind_of r) (list_of r) (list_long r) e)

pub string_small : (sky : Sky) → lowest_bad sky 75 ≡ 0 → (i : ℕ) → 1 ≤ i → i ≤ 75 → sky_string sky i < 2 ^ 84
unfolding sky_string
string_small sky z i a b =
    record_small (string_number i) (record_in sky (frame_at i) (string_number i)) (omega arith) (words_good sky i a b (record_in sky (frame_at i) (string_number i)) refl (none_told sky z i a b))

-- ---- it is sent
pub sent_as : (n : ℕ) → n < 2 ^ 84 → (s out out' : List ℕ) (w : Result ⊤ Refusal) → length out ≡ 11 → s ≡ bytes_of_string n → WritesRelative s out w out' → out' ≡ relative_bytes n
unfolding relative_bytes
sent_as n h s out out' w long is a =
    let l : n < 2 ^ 85 = omega arith in
    let e = string_number_lem n l in
    let idle : bit_of n 85 ≡ 0 = omega arith in
    let d = writes (bytes_of_string n) out long (string_shaped n l) (ap (λ (x : ℕ). eqb (bit_of x 85) 1) e ∙ ne_eqb (bit_of n 85) 1 (λ q. omega (arith, q, idle))) in
    (writes_once (bytes_of_string n) out w out' (Ok tt) _ (subst (λ (x : List ℕ). WritesRelative x out w out') is a) d).1 ∙ ap (λ (x : ℕ). bytes_of_string (write_relative x)) e

-- ---- and read back
bytes_small : (n x : ℕ) → Bytes (bytes_of n x)
bytes_small zero x k = zero-lt-suc 255
bytes_small (suc n) x zero = mod-lt (x / 2 ^ (8 * n)) (zero-lt-suc 255)
bytes_small (suc n) x (suc k) = bytes_small n x k

byte_lt : (x : ℕ) → Bytes (bytes_of_string x)
unfolding bytes_of_string
byte_lt x = bytes_small 11 (x * 8)

-- a symbol of a string's bytes is its bit
symbol_bit : (x b : ℕ) → x < 2 ^ 85 → 1 ≤ b → b ≤ 85 → symbol_of (bytes_of_string x) (85 - b) ≡ bit_of x b
symbol_bit x b h l u =
    let q : 7 - (85 - b) % 8 ≡ (b + 2) % 8 = omega arith in
    ap (λ (k : ℕ). get_or (bytes_of_string x) ((85 - b) / 8) 0 / 2 ^ k % 2) q ∙ sym (bit_at (bytes_of_string x) b (byte_lt x) (string_length x) l u)
    ∙ ap (λ (n : ℕ). bit_of n b) (string_number_lem x h)

-- the idle bit is sent as 0
pub idle_sent : (n : ℕ) → n < 2 ^ 84 → symbol_of (relative_bytes n) 0 ≡ 0
unfolding relative_bytes first_symbol
idle_sent n h = symbol_bit (write_relative n) 85 (written_lt n) (lit≤ tt) (lit≤ tt) ∙ first_written n h

-- the number of these bits
from_same : (f g : ℕ → ℕ) (m : ℕ) → ((b : ℕ) → 1 ≤ b → b ≤ m → f b ≡ g b) → number_from_bits f m ≡ number_from_bits g m
from_same f g zero e = refl
from_same f g (suc m) e = ap₂ (λ (x y : ℕ). x * 2 ^ m + y) (e (suc m) (omega arith) (omega arith)) (from_same f g m (λ b l u. e b l (omega arith)))

number_from_bits_lem : (x : ℕ) → x < 2 ^ 85 → number_from_bits (bit_of x) 85 ≡ x
number_from_bits_lem x h = bits_same 85 (number_from_bits (bit_of x) 85) x (from_lt (bit_of x) (bit_lt x) 85) h (λ i l u. bit_from (bit_of x) (bit_lt x) 85 i l u)

pub read_back_lem : (sky : Sky) (i : ℕ) → i < 75 → heard_in (sky_lines sky) (suc i) ≡ relative_bytes (sky_string sky (suc i))
unfolding heard_in sky_lines relative_bytes
read_back_lem sky i l =
    let x = write_relative (sky_string sky (suc i)) in
    let f : ℕ → List ℕ = λ i. bytes_of_string (write_relative (sky_string sky (suc i))) in
    let z : 200 * (suc i - 1) ≡ 200 * i = omega arith in
    ap bytes_of_string
    (from_same _ (bit_of x) 85
    (λ b l' u. ap (λ (k : ℕ). get_or (lines_of f 75) (k + 2 * (85 - b)) 0) z ∙ first_half f 75 i (85 - b) l (omega arith) ∙ symbol_bit x b (written_lt (sky_string sky (suc i))) l' u)
    ∙ number_from_bits_lem x (written_lt (sky_string sky (suc i))))

-- in plain form too
pub plain_back : (n : ℕ) → n < 2 ^ 84 → read_relative (number_of (relative_bytes n)) ≡ n
unfolding relative_bytes
plain_back n h = ap read_relative (string_number_lem (write_relative n) (written_lt n)) ∙ read_written n h
