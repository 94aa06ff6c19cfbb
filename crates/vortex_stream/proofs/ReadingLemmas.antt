-- A call that reads until it is told the end, a read fails, or it has made so many reads.
use Rattle.std.proofs.Common.{◌≡◌, ℕ, ◌+◌, ◌<◌, ◌≤◌, cond, eqb, ltb, ◌&&◌, List, [], ◌++◌, length, take, Option, refl, ap, subst, ◌∙◌, arith, append-nil}
use Rattle.std.proofs.KnownBytes.{Consumes-nil, Consumes-trans, Consumes-kept}
use Rattle.std.proofs.lemmas.List.{length-append, length-take-le}
use Rattle.std.proofs.lemmas.Bool.{lt-ltb, ne_eqb}
use Rattle.std.specs.Io.KnownBytes.{Consumes, Keeps, IsAtEnd}
use Rattle.vortex_stream.specs.Counts.{raised_64, raised_128, raised_by}
use Rattle.vortex_stream.specs.Reading.{Reads, ReadToEnd, ReadToFault, ReadToLimit, ReadWithoutFault}
use Rattle.vortex_stream.specs.declared.counts.SourceCounts.{SourceCounts}

-- so many reads, each of which gave a byte at least, gave all of these
pub record Gave (before now : SourceCounts) (rest left : Option (List ℕ)) (all : List ℕ) (reads : ℕ) : Type 0 where
  pub counted : now ≡ raised_by before (record { faults = 0; ends = 0; given = length all; reads = reads })
  pub each : reads ≤ length all
  pub taken : Consumes rest left all

-- ---- the counts of two calls

same_64 : (a : ℕ) → raised_64 a 0 ≡ a
same_64 a = omega arith

same_128 : (a : ℕ) → raised_128 a 0 ≡ a
same_128 a = omega arith

more_64 : (a m n : ℕ) → raised_64 (raised_64 a m) n ≡ raised_64 a (m + n)
more_64 a m n = omega arith

more_128 : (a m n : ℕ) → raised_128 (raised_128 a m) n ≡ raised_128 a (m + n)
more_128 a m n = omega arith

-- the counts of two calls together
abbrev together : SourceCounts → SourceCounts → SourceCounts
together a b = record { faults = a.faults + b.faults; ends = a.ends + b.ends; given = a.given + b.given; reads = a.reads + b.reads }

twice : (c a b : SourceCounts) → raised_by (raised_by c a) b ≡ raised_by c (together a b)
twice c a b = rw (more_64 c.faults a.faults b.faults, more_64 c.ends a.ends b.ends, more_128 c.given a.given b.given, more_128 c.reads a.reads b.reads) refl

after_both : (before now after a b : SourceCounts) → now ≡ raised_by before a → after ≡ raised_by now b → after ≡ raised_by before (together a b)
after_both before now after a b e f = f ∙ ap (λ (c : SourceCounts). raised_by c b) e ∙ twice before a b

raised_none : (c : SourceCounts) → c ≡ raised_by c (record { faults = 0; ends = 0; given = 0; reads = 0 })
raised_none c = rw (same_64 c.faults, same_64 c.ends, same_128 c.given, same_128 c.reads) refl

-- ---- the loop

-- before the first read
pub gave_none : (counts : SourceCounts) (rest : Option (List ℕ)) → Gave counts counts rest rest [] 0
gave_none counts rest = record { counted = raised_none counts; each = omega arith; taken = Consumes-nil rest }

-- what an answer says of the bytes: they are taken from those to come, and none only at the end
abbrev pub Took : Option (List ℕ) → Option (List ℕ) → List ℕ → ℕ → Type 0
Took left next piece count = Consumes left next (take count piece) × (count ≡ 0 → 0 < length piece → IsAtEnd next)

-- whether an answer tells the end, as a number
abbrev ends_of : ℕ → ℕ → ℕ
ends_of count room = cond (eqb count 0 && ltb 0 room) 1 0

-- the counts of a read that gave so many bytes of a piece
abbrev counts_of_count : ℕ → List ℕ → SourceCounts
counts_of_count count piece = record { faults = 0; ends = ends_of count (length piece); given = count; reads = 1 }

some_ends : (count room : ℕ) → (count ≡ 0 → ⊥) → ends_of count room ≡ 0
some_ends count room some = rw (ne_eqb count 0 some) refl

none_ends : (count room : ℕ) → count ≡ 0 → 0 < room → ends_of count room ≡ 1
none_ends count room none long = rw (none, lt-ltb 0 room long) refl

-- after one more that gave some bytes
pub gave_more : (before now after : SourceCounts) (rest left next : Option (List ℕ)) (all piece : List ℕ) (reads count : ℕ) → Gave before now rest left all reads
    → (count ≡ 0 → ⊥) → count ≤ length piece → after ≡ raised_by now (counts_of_count count piece) → Took left next piece count
    → Gave before after rest next (all ++ take count piece) (reads + 1)
gave_more before now after rest left next all piece reads count g some le counted took =
    let len : length (all ++ take count piece) ≡ length all + count = length-append all (take count piece) ∙ ap (λ n. length all + n) (length-take-le count piece le) in
    let each = g.each in
    let no_end = subst (λ (n : ℕ). after ≡ raised_by now (record { faults = 0; ends = n; given = count; reads = 1 })) (some_ends count (length piece) some) counted in
    record {
      counted = rw len (after_both before now after _ _ g.counted no_end);
      each = rw len (omega (arith, each, some));
      taken = Consumes-trans rest left next all (take count piece) g.taken took.0;
    }

-- the next one told the end
pub gave_end : (most : ℕ) (before now after : SourceCounts) (rest left next : Option (List ℕ)) (all piece : List ℕ) (reads count : ℕ) → Gave before now rest left all reads → reads < most
    → count ≡ 0 → 0 < length piece → after ≡ raised_by now (counts_of_count count piece) → Took left next piece count → ReadToEnd most before after rest next
gave_end most before now after rest left next all piece reads count g few none long counted took =
    let each = g.each in
    let one_end = subst (λ (n : ℕ). after ≡ raised_by now (record { faults = 0; ends = n; given = count; reads = 1 })) (none_ends count (length piece) none long) counted in
    let given : count ≡ 0 = none in
    let taken : Consumes rest next (all ++ take count piece) = Consumes-trans rest left next all (take count piece) g.taken took.0 in (
      record { faults = 0; ends = 1; given = length all + count; reads = reads + 1 },
      record {
        counted = after_both before now after _ _ g.counted one_end;
        few = omega (arith, few);
        stops = omega arith;
        each_gives = omega (arith, each);
        bytes = (all, omega (arith, given), subst (Consumes rest next) (ap (λ (n : ℕ). all ++ take n piece) none ∙ append-nil all) taken);
      },
      refl,
      took.1 none long,
    )

-- the next one failed
pub gave_fault : (most : ℕ) (before now after : SourceCounts) (rest left next : Option (List ℕ)) (all : List ℕ) (reads : ℕ) → Gave before now rest left all reads → reads < most
    → after ≡ raised_by now (record { faults = 1; ends = 0; given = 0; reads = 1 }) → Keeps left next → ReadToFault most before after rest next
gave_fault most before now after rest left next all reads g few counted kept =
    let each = g.each in (
      record { faults = 1; ends = 0; given = length all + 0; reads = reads + 1 },
      record {
        counted = after_both before now after _ _ g.counted counted;
        few = omega (arith, few);
        stops = omega arith;
        each_gives = omega (arith, each);
        bytes = (all, omega arith, Consumes-kept rest left next all g.taken kept);
      },
      refl,
    )

stopped : (most : ℕ) (before now : SourceCounts) (rest left : Option (List ℕ)) (all : List ℕ) (reads : ℕ) → Gave before now rest left all reads → reads ≤ most
    → Reads most (record { faults = 0; ends = 0; given = length all; reads = reads }) before now rest left
stopped most before now rest left all reads g few =
    let each = g.each in
    record {
      counted = g.counted;
      few = few;
      stops = omega arith;
      each_gives = omega (arith, each);
      bytes = (all, refl, g.taken);
    }

-- no more were allowed
pub gave_limit : (most : ℕ) (before now : SourceCounts) (rest left : Option (List ℕ)) (all : List ℕ) → Gave before now rest left all most → ReadToLimit most before now rest left
gave_limit most before now rest left all g = (_, stopped most before now rest left all most g (omega arith), refl, refl, refl)

-- it was left there
pub gave_some : (most : ℕ) (before now : SourceCounts) (rest left : Option (List ℕ)) (all : List ℕ) (reads : ℕ) → Gave before now rest left all reads → reads ≤ most → ReadWithoutFault most before now rest left
gave_some most before now rest left all reads g few = (_, stopped most before now rest left all reads g few, refl)
