-- The words of a table before it is opened.
use Rattle.std.proofs.Common.{◌≡◌, ℕ, zero, suc, ◌+◌, ◌-◌, ◌*◌, ◌<◌, ◌≤◌, ◌≢◌, List, [], ◌∷◌, ◌++◌, length, get_or, set, replicate, refl, sym, ap, ◌∙◌, subst, arith, cond, eqb, length-set, length-append, get_or-set_other, get_or-set_same, inl, inr}
use Rattle.std.proofs.lemmas.List.Folds.{sum_by-replicate}
use Rattle.std.proofs.lemmas.List.{get_or-append_right}
use mathlib.Core.Logic.{dite}
use native.Mathlib.Decide.{ℕ_discrete}
use lib.ListN.{get_or-append}
use lib.Seq.{get_or-append_seam}
use Rattle.flow_types.specs.Size.{value_bits}
use Rattle.group_search.specs.declared.record.GroupRecord.{GroupRecord}
use Rattle.group_search.specs.declared.record.GroupRecord.TheVariants.{Served}
use Rattle.group_search.specs.Canon.{rows_in}
use Rattle.group_search.specs.Home.{Home}
use Rattle.group_search.specs.Image.{Image}
use Rattle.group_search.specs.Published.{opening_record}
use Rattle.group_search.specs.Words.{HasBits, PacksTo, packed_of, words_of}
use Rattle.group_cell.specs.Changes.{Untouched}
use Rattle.group_cell.specs.Laying.{AreLaid, IsBare, IsBlockLaid, IsLaid, LeavesOthers, in_front}
use Rattle.group_cell.specs.Layout.{block_words, data_words, low_word, high_word, data_word, sequence_word, high, sequence, datum, tag}
use Rattle.group_cell.specs.Rule.{IsSoundRecord, RowsStand, rows_placed}
use Rattle.group_cell.specs.Seating.{AreOwners, places_of}
use Rattle.group_cell.proofs.Versions.{one_home}
use Rattle.group_cell.proofs.Groups.{holds_at, holds_on, high_of_own, low_of_free, own_word, rows_at, rows_on, sequence_above_high, sequence_above_low, untouched-self, untouched-trans}
use Rattle.group_cell.proofs.Placing.{no_rows, none_left, owner_set, owners_low, owners_on, places_kept}

pub leaves-self : (at : Home) (words owners : List ℕ) → LeavesOthers at words words owners owners
leaves-self at words owners = record { wide = refl; groups = λ other _ _. untouched-self other words; places = λ o _ _. refl }

pub leaves-trans : (at : Home) (a b c oa ob oc : List ℕ) → LeavesOthers at a b oa ob → LeavesOthers at b c ob oc → LeavesOthers at a c oa oc
leaves-trans at a b c oa ob oc s t = record {
  wide = t.wide ∙ s.wide;
  groups = λ other few apart. untouched-trans other a b c (s.groups other few apart) (t.groups other few apart);
  places = λ o not_free not_mine. t.places o not_free not_mine ∙ s.places o not_free not_mine;
}

-- a row in a free place of the block in front
module _ (words owners : List ℕ) (g k first second i j : ℕ) (few : g < 64) (less : k < 64) (owned : AreOwners owners words 0) (free : get_or owners k 0 ≡ 0) (tagged : tag second ≡ g + 1)
    (at_i : i ≡ low_word 0 k) (at_j : j ≡ high_word 0 k) where
  now_is : set (set words i first) j second ≡ set (set words (low_word 0 k) first) (high_word 0 k) second
  now_is = λ l. set (set words (at_i l) first) (at_j l) second

  tag_free : tag (high words 0 k) ≡ 0
  tag_free = sym (owned.tags k less) ∙ free

  low_owned : AreOwners owners (set words (low_word 0 k) first) 0
  low_owned = owners_low owners words 0 k first owned

  pub row_owners : AreOwners (set owners k (g + 1)) (set (set words i first) j second) 0
  row_owners = subst (λ (ws : List ℕ). AreOwners (set owners k (g + 1)) ws 0) (sym now_is) (owner_set owners (set words (low_word 0 k) first) 0 k (g + 1) second less (omega arith) low_owned tagged)

  room : high_word 0 k < length (set words (low_word 0 k) first)
  room = let wide = low_owned.wide in omega arith

  pub row_leaves : LeavesOthers (in_front g) words (set (set words i first) j second) owners (set owners k (g + 1))
  row_leaves = subst (λ (ws : List ℕ). LeavesOthers (in_front g) words ws owners (set owners k (g + 1))) (sym now_is) record {
    wide = length-set (set words (low_word 0 k) first) (high_word 0 k) second ∙ length-set words (low_word 0 k) first;
    groups = λ other few' apart. untouched-trans other words (set words (low_word 0 k) first) (set (set words (low_word 0 k) first) (high_word 0 k) second)
        (low_of_free words 0 k first less tag_free other few')
        (high_of_own (set words (low_word 0 k) first) 0 k second less (in_front g) refl room (inl (sym (low_owned.tags k less) ∙ free)) (inr tagged) other few' apart);
    places = λ o not_free not_mine. places_kept 0 (g + 1) k owners (let all = owned.all in omega arith) free o not_free not_mine;
  }

  pub row_version : sequence (set (set words i first) j second) (in_front g) ≡ sequence words (in_front g)
  row_version = ap (λ (ws : List ℕ). sequence ws (in_front g)) now_is
      ∙ (sequence_above_high (set words (low_word 0 k) first) 0 k second less (in_front g) few ∙ sequence_above_low words 0 k first less (in_front g) few)

-- a group's two data words
module _ (words owners : List ℕ) (g a b i j : ℕ) (few : g < 64) (at_i : i ≡ data_word (in_front g) 0) (at_j : j ≡ data_word (in_front g) 1) (room : block_words ≤ length words) where
  is : set (set words i a) j b ≡ set (set words (sequence_word (in_front g) + 1) a) (sequence_word (in_front g) + 2) b
  is = let x : i ≡ sequence_word (in_front g) + 1 = omega arith in let y : j ≡ sequence_word (in_front g) + 2 = omega arith in λ l. set (set words (x l) a) (y l) b

  else_is : (k : ℕ) → k ≢ i → k ≢ j → get_or (set (set words i a) j b) k 0 ≡ get_or words k 0
  else_is k not_i not_j = get_or-set_other (set words i a) j k b 0 not_j ∙ get_or-set_other words i k a 0 not_i

  pub data_leaves : LeavesOthers (in_front g) words (set (set words i a) j b) owners owners
  data_leaves = subst (λ (ws : List ℕ). LeavesOthers (in_front g) words ws owners owners) (sym is) record {
    wide = length-set (set words (sequence_word (in_front g) + 1) a) (sequence_word (in_front g) + 2) b ∙ length-set words (sequence_word (in_front g) + 1) a;
    groups = λ other few' apart. untouched-trans other words (set words (sequence_word (in_front g) + 1) a) (set (set words (sequence_word (in_front g) + 1) a) (sequence_word (in_front g) + 2) b)
        (own_word (in_front g) few words 1 a (omega arith) other few' apart) (own_word (in_front g) few (set words (sequence_word (in_front g) + 1) a) 2 b (omega arith) other few' apart);
    places = λ o _ _. refl;
  }

  pub data_owners : AreOwners owners words 0 → AreOwners owners (set (set words i a) j b) 0
  data_owners o = owners_on owners words (set (set words i a) j b) 0 (length-set (set words i a) j b ∙ length-set words i a) (λ k less. else_is (high_word 0 k) (λ e. omega arith) (λ e. omega arith)) o

  pub group_laid : (content : GroupRecord) (packed : List ℕ) → a ≡ get_or packed 0 0 → b ≡ get_or packed 1 0 → packed ≡ words_of content → ((bits : ℕ) → HasBits bits content → PacksTo bits (packed_of content) packed)
      → IsSoundRecord content → RowsStand words (in_front g) (rows_placed content) → sequence words (in_front g) ≡ 0 → places_of (g + 1) owners ≡ rows_in content → IsLaid (set (set words i a) j b) owners (in_front g) content
  group_laid content packed a_is b_is packed_is packs sound rows version counted = record {
    version = else_is (sequence_word (in_front g)) (λ e. omega arith) (λ e. omega arith) ∙ version;
    holds = λ nodes bits in_cluster. record {
      data_words = two_words;
      packs = subst (PacksTo (value_bits nodes) (packed_of content)) packed_is (packs (value_bits nodes) bits);
      rows = rows_at words (set (set words i a) j b) (in_front g) (in_front g) refl (λ k less. (else_is (high_word 0 k) (λ e. omega arith) (λ e. omega arith), else_is (low_word 0 k) (λ e. omega arith) (λ e. omega arith))) (rows_placed content) rows;
      sound = sound;
      in_cluster = in_cluster;
    };
    counted = counted;
  }
    where
      first_is : datum (set (set words i a) j b) (in_front g) 0 ≡ get_or (words_of content) 0 0
      first_is = ap (λ (k : ℕ). get_or (set (set words i a) j b) k 0) (sym at_i) ∙ (get_or-set_other (set words i a) j i b 0 (λ e. omega arith)
          ∙ (get_or-set_same words i a 0 (omega arith) ∙ (a_is ∙ ap (λ (ws : List ℕ). get_or ws 0 0) packed_is)))

      second_is : datum (set (set words i a) j b) (in_front g) 1 ≡ get_or (words_of content) 1 0
      second_is = ap (λ (k : ℕ). get_or (set (set words i a) j b) k 0) (sym at_j) ∙ (get_or-set_same (set words i a) j b 0 (let e = length-set words i a in omega arith)
          ∙ (b_is ∙ ap (λ (ws : List ℕ). get_or ws 1 0) packed_is))

      two_words : (n : ℕ) → n < data_words → datum (set (set words i a) j b) (in_front g) n ≡ get_or (words_of content) n 0
      two_words zero less = first_is
      two_words (suc zero) less = second_is
      two_words (suc (suc n)) less = absurd (omega arith)

-- what is laid stays while its group is untouched
pub laid_on : (words words' owners owners' : List ℕ) (at : Home) (content : GroupRecord) → Untouched at words words' → places_of (at.group + 1) owners' ≡ places_of (at.group + 1) owners → IsLaid words owners at content → IsLaid words' owners' at content
laid_on words words' owners owners' at content u same l = record {
  version = u.version ∙ l.version;
  holds = λ nodes bits in_cluster. holds_on at words words' u.group nodes content (l.holds nodes bits in_cluster);
  counted = same ∙ l.counted;
}

pub bare_on : (words words' owners owners' : List ℕ) (at : Home) → Untouched at words words' → places_of (at.group + 1) owners' ≡ places_of (at.group + 1) owners → IsBare words owners at → IsBare words' owners' at
bare_on words words' owners owners' at u same l = record { version = u.version ∙ l.version; rows = rows_on at words words' u.group [] l.rows; counted = same ∙ l.counted }

-- a block of zeros has no places
abbrev pub zeros : ℕ → List ℕ
zeros n = replicate n 0

pub all_zero : (n i : ℕ) → get_or (zeros n) i 0 ≡ 0
all_zero zero i = refl
all_zero (suc n) zero = refl
all_zero (suc n) (suc i) = all_zero n i

pub length_zeros : (n : ℕ) → length (zeros n) ≡ n
length_zeros zero = refl
length_zeros (suc n) = let e = length_zeros n in omega arith

pub zero_owners : (words owners : List ℕ) → words ≡ zeros block_words → owners ≡ zeros 64 → AreOwners owners words 0
zero_owners words owners ws os = record {
  all = ap length os ∙ length_zeros 64;
  wide = let e : length words ≡ block_words = ap length ws ∙ length_zeros block_words in omega arith;
  tags = λ k less. ap (λ (l : List ℕ). get_or l k 0) os ∙ (all_zero 64 k ∙ sym (ap tag (ap (λ (l : List ℕ). high l 0 k) ws ∙ all_zero block_words (high_word 0 k))));
  known = λ k less. let e : get_or owners k 0 ≡ 0 = ap (λ (l : List ℕ). get_or l k 0) os ∙ all_zero 64 k in omega arith;
}

pub zero_bare : (words owners : List ℕ) (g : ℕ) → words ≡ zeros block_words → owners ≡ zeros 64 → IsBare words owners (in_front g)
zero_bare words owners g ws os = record {
  version = ap (λ (l : List ℕ). sequence l (in_front g)) ws ∙ all_zero block_words (sequence_word (in_front g));
  rows = no_rows owners words (in_front g) (zero_owners words owners ws os) (λ k less e. let z : get_or owners k 0 ≡ 0 = ap (λ (l : List ℕ). get_or l k 0) os ∙ all_zero 64 k in omega arith);
  counted = none_left owners words 0 (g + 1) (zero_owners words owners ws os) (λ k less e. let z : get_or owners k 0 ≡ 0 = ap (λ (l : List ℕ). get_or l k 0) os ∙ all_zero 64 k in omega arith);
}

pub zero_free : (owners : List ℕ) → owners ≡ zeros 64 → places_of 0 owners ≡ 64
zero_free owners os = ap (places_of 0) os ∙ (sum_by-replicate (λ (x : ℕ). cond (eqb x 0) 1 0) 64 0 ∙ refl)

-- the groups of an image in front of another list
module _ (words owners bw bo : List ℕ) (block : ℕ) (wide : length words ≡ block_words * block) (long : length bw ≡ block_words) where
  after : (i j : ℕ) → j ≡ block_words * block + i → get_or (words ++ bw) j 0 ≡ get_or bw i 0
  after i j e = get_or-append_right words bw (block_words * block) j 0 wide (omega arith) ∙ ap (λ (k : ℕ). get_or bw k 0) (let f : j - block_words * block ≡ i = omega arith in f)

  -- the last block
  pub last_owners : AreOwners bo bw 0 → AreOwners bo (words ++ bw) block
  last_owners o = record {
    all = o.all;
    wide = let e = length-append words bw in omega arith;
    tags = λ k less. o.tags k less ∙ ap tag (sym (after (high_word 0 k) (high_word block k) (omega arith)));
    known = o.known;
  }

  pub last_laid : (g : ℕ) (content : GroupRecord) → IsLaid bw bo (in_front g) content → IsLaid (words ++ bw) bo (record { block = block; group = g }) content
  last_laid g content l = let there : Home = record { block = block; group = g } in record {
    version = after (sequence_word (in_front g)) (sequence_word there) (omega arith) ∙ l.version;
    holds = λ nodes bits in_cluster. holds_at nodes bw (words ++ bw) (in_front g) there content refl (λ j two. after (data_word (in_front g) j) (data_word there j) (omega arith))
        (λ k less. (after (high_word 0 k) (high_word block k) (omega arith), after (low_word 0 k) (low_word block k) (omega arith))) (l.holds nodes bits in_cluster);
    counted = l.counted;
  }

  -- an earlier block
  before : (i : ℕ) → i < block_words * block → get_or (words ++ bw) i 0 ≡ get_or words i 0
  before i less = get_or-append words bw 0 i (omega arith)

  pub first_owners : (b : ℕ) → b < block → AreOwners owners words b → AreOwners owners (words ++ bw) b
  first_owners b less o = record {
    all = o.all;
    wide = let e = length-append words bw in omega arith;
    tags = λ k inside. o.tags k inside ∙ ap tag (sym (before (high_word b k) (omega arith)));
    known = o.known;
  }

  pub first_laid : (at : Home) (content : GroupRecord) → at.block < block → at.group < 64 → IsLaid words owners at content → IsLaid (words ++ bw) owners at content
  first_laid at content less few l = record {
    version = before (sequence_word at) (omega arith) ∙ l.version;
    holds = λ nodes bits in_cluster. holds_at nodes words (words ++ bw) at at content refl (λ j two. before (data_word at j) (omega arith)) (λ k inside. (before (high_word at.block k) (omega arith), before (low_word at.block k) (omega arith))) (l.holds nodes bits in_cluster);
    counted = l.counted;
  }

-- one more block is laid
pub one_more_block : (words : List ℕ) (owners : List (List ℕ)) (bw bo : List ℕ) (images : List Image) (image : Image) → AreLaid words owners images → length bw ≡ block_words → IsBlockLaid bw bo image → AreLaid (words ++ bw) (owners ++ bo ∷ []) (images ++ image ∷ [])
one_more_block words owners bw bo images image t long l = let wide = t.wide in let one = t.one_each in
    let count = length-append images (image ∷ []) in let n = length-append owners (bo ∷ []) in let m = length-append words bw in
    let last_owner : get_or (owners ++ bo ∷ []) (length images) [] ≡ bo = ap (λ (k : ℕ). get_or (owners ++ bo ∷ []) k []) (sym one) ∙ get_or-append_seam owners bo [] [] in record {
      wide = omega arith;
      one_each = omega arith;
      all = λ b less. dite (ℕ_discrete b (length images))
          (λ e. subst (λ (x : Image). 64 ≤ length x.records) (sym (ap (λ (k : ℕ). get_or (images ++ image ∷ []) k (record { choices = []; records = [] })) e ∙ get_or-append_seam images image [] (record { choices = []; records = [] }))) l.all)
          (λ other. let before : b < length images = omega arith in
          subst (λ (x : Image). 64 ≤ length x.records) (sym (get_or-append images (image ∷ []) (record { choices = []; records = [] }) b before)) (t.all b before));
      owners_of = λ b less. dite (ℕ_discrete b (length images))
          (λ e. subst (λ (x : ℕ). AreOwners (get_or (owners ++ bo ∷ []) x []) (words ++ bw) x) (sym e) (subst (λ (os : List ℕ). AreOwners os (words ++ bw) (length images)) (sym last_owner) (last_owners words [] bw bo (length images) wide long l.owners_of)))
          (λ other. let before : b < length images = omega arith in subst (λ (os : List ℕ). AreOwners os (words ++ bw) b) (sym (get_or-append owners (bo ∷ []) [] b (omega arith)))
          (first_owners words (get_or owners b []) bw bo (length images) wide long b before (t.owners_of b before)));
      groups = λ at less few. dite (ℕ_discrete at.block (length images))
          (λ e. subst (λ (h : Home). IsLaid (words ++ bw) (get_or (owners ++ bo ∷ []) h.block []) h (opening_record (images ++ image ∷ []) h)) (sym (one_home at (record { block = length images; group = at.group }) e refl))
          (subst (λ (x : List ℕ × Image). IsLaid (words ++ bw) x.0 (record { block = length images; group = at.group }) (get_or x.1.records at.group (Served [])))
          (λ i. (sym last_owner i, sym (get_or-append_seam images image [] (record { choices = []; records = [] })) i))
          (last_laid words [] bw bo (length images) wide long at.group (get_or image.records at.group (Served [])) (l.groups at.group few))))
          (λ other. let before : at.block < length images = omega arith in
          subst (λ (x : List ℕ × Image). IsLaid (words ++ bw) x.0 at (get_or x.1.records at.group (Served [])))
          (λ i. (sym (get_or-append owners (bo ∷ []) [] at.block (omega arith)) i, sym (get_or-append images (image ∷ []) (record { choices = []; records = [] }) at.block before) i))
          (first_laid words (get_or owners at.block []) bw bo (length images) wide long at (opening_record images at) before few (t.groups at before few)));
    }
