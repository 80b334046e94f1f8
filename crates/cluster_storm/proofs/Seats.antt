-- What stands while a storm's lanes are seated, one part after the other.
use Rattle.std.proofs.Common.{◌≡◌, ◌≢◌, ◌∙◌, ◌+◌, ◌<◌, ℕ, zero, suc, List, [], ◌∷◌, ◌++◌, get_or, length, map, replicate, set, take, Option, Some, refl, sym, ap, subst, arith, ⊎_elim}
use Rattle.std.specs.List.{range_with_len, slice_get}
use Rattle.std.specs.Option.{option_map}
use Rattle.std.proofs.lemmas.Bool.{cases_eq}
use Rattle.std.proofs.lemmas.List.{append-nil, length-map, length-set, map-append, replicate_more, same_from_push}
use Rattle.std.proofs.lemmas.Option.{get_or_from_slice_get, same_Some, slice_get-map, slice_get_past, slice_get_within}
use Rattle.flow_types.specs.declared.record.Flow.{Flow}
use Rattle.flow_types.specs.Size.{Size, owners_in}
use Rattle.replica_shard.specs.Shard.{shard_after}
use Rattle.replica_shard.specs.Store.{ShardStore, shard_state_of}
use Rattle.partial_fib.specs.Ends.{ReaderState, reader_told}
use Rattle.partial_fib.specs.Fib.{fib_after}
use Rattle.partial_fib.specs.Store.{FibStore, state_of}
use Rattle.packet_path.specs.Fibs.{no_fib}
use Rattle.packet_path.specs.Seated.{Viewed}
use Rattle.storm_lane.specs.Lane.{LaneState, IsWhole, all_seats, book_of, fib_part, shard_of, tables_of, turns_of}
use Rattle.storm_lane.specs.Readers.{ReadersState, Seats, seats_of}
use Rattle.turn_relay.specs.Each.{AllFrom, Each, Every, HasAt}
use Rattle.turn_relay.specs.Linking.{IsFresh}
use Rattle.turn_relay.specs.PartState.{ApplierState, PartState}
use Rattle.turn_relay.proofs.Phases.{passed_on}
use Rattle.turn_relay.proofs.Places.{set_others, set_there}
use Rattle.turn_relay.proofs.Runs.{each_at}
use Rattle.cluster_storm.specs.Opening.{AreFreshNodes, ReadsAll}
use Rattle.cluster_storm.specs.Rest.{HasSeen, part_at}
use Rattle.cluster_storm.specs.Seating.{HasOneMore, IsNewPart, IsReadTo, ReadsColumn, ReadsSoFar, SeesFib, SeesTable, TakesPart, begun, column, column_with}
use Rattle.cluster_storm.proofs.Resting.{is-there}

-- ---- lists

-- one more at the end
pub push-last : {A : Type 0} (xs : List A) (x : A) → slice_get (xs ++ x ∷ []) (length xs) ≡ Some x
push-last [] x = refl
push-last (first ∷ xs) x = push-last xs x

pub push-others : {A : Type 0} (xs : List A) (x : A) (i : ℕ) → i ≢ length xs → slice_get (xs ++ x ∷ []) i ≡ slice_get xs i
push-others [] x zero away = absurd (away refl)
push-others [] x (suc i) away = refl
push-others (first ∷ xs) x zero away = refl
push-others (first ∷ xs) x (suc i) away = push-others xs x i (λ same. away (ap suc same))

pub placed-more : {A : Type 0} (P : ℕ → A → Type 0) (xs : List A) (x : A) → ((i : ℕ) (y : A) → slice_get xs i ≡ Some y → P i y) → P (length xs) x
    → (i : ℕ) (y : A) → slice_get (xs ++ x ∷ []) i ≡ Some y → P i y
placed-more P xs x all one i y there =
    ⊎_elim
    (λ (same : i ≡ length xs).
    let is : x ≡ y = same_Some x y (sym (push-last xs x) ∙ subst (λ (n : ℕ). slice_get (xs ++ x ∷ []) n ≡ Some y) same there) in
    subst (λ (n : ℕ). P n y) (sym same) (subst (P (length xs)) is one))
    (λ (away : i ≢ length xs). all i y (sym (push-others xs x i away) ∙ there))
    (cases_eq i (length xs))

pub each-more : {A B : Type 0} (R : A → B → Type 0) (xs : List A) (ys : List B) (x : A) (y : B) → Each R xs ys → R x y → Each R (xs ++ x ∷ []) (ys ++ y ∷ [])
each-more R [] [] x y each one = (one, tt)
each-more R [] (z ∷ ys) x y each one = absurd each
each-more R (z ∷ xs) [] x y each one = absurd each
each-more R (u ∷ xs) (v ∷ ys) x y each one = (each.0, each-more R xs ys x y each.1 one)

pub each-many : {A B : Type 0} (R : A → B → Type 0) (xs : List A) (ys : List B) → Each R xs ys → length ys ≡ length xs
each-many R [] [] each = refl
each-many R [] (y ∷ ys) each = absurd each
each-many R (x ∷ xs) [] each = absurd each
each-many R (x ∷ xs) (y ∷ ys) each = ap suc (each-many R xs ys each.1)

pub every-weaker : {A : Type 0} (P Q : A → Type 0) → ((x : A) → P x → Q x) → (xs : List A) → Every P xs → Every Q xs
every-weaker P Q weaker [] every = tt
every-weaker P Q weaker (x ∷ xs) every = (weaker x every.0, every-weaker P Q weaker xs every.1)

-- as many as there are before the others
pub take-exact : {A : Type 0} (xs ys : List A) (n : ℕ) → length xs ≡ n → take n (xs ++ ys) ≡ xs
take-exact [] ys zero many = refl
take-exact [] ys (suc n) many = absurd (omega (arith, many))
take-exact (x ∷ xs) ys zero many = absurd (omega (arith, many))
take-exact (x ∷ xs) ys (suc n) many = ap (λ rest. x ∷ rest) (take-exact xs ys n (omega (arith, many)))

-- the last of equal ones
pub last-of-equal : {A : Type 0} (n : ℕ) (x : A) (ys : List A) (y : A) → replicate (suc n) x ≡ ys ++ y ∷ [] → (ys ≡ replicate n x) × (y ≡ x)
last-of-equal n x ys y is =
    let whole : n + 1 ≡ suc n = omega arith in
    let both = same_from_push (replicate n x) ys x y (replicate_more n x ∙ ap (λ (m : ℕ). replicate m x) whole ∙ is) in
    (sym both.0, sym both.1)

pub rest-of-equal : {A B : Type 0} (x : A) (all rest : List A) (one : A) (others : List B) (first : B) (whole : List B) → all ≡ replicate (length whole) x → whole ≡ first ∷ others
    → all ≡ rest ++ one ∷ [] → (rest ≡ replicate (length others) x) × (one ≡ x)
rest-of-equal {B = B} x all rest one others first whole same split popped =
    last-of-equal (length others) x rest one (ap (λ (xs : List B). replicate (length xs) x) (sym split) ∙ sym same ∙ popped)

-- what is said of each by its number
pub all-from-numbers : {A B : Type 0} (g : A → B) (f : ℕ → B) (first many : ℕ) (xs : List A) → map g xs ≡ map f (range_with_len first many)
    → AllFrom (λ (n : ℕ) (x : A). g x ≡ f n) first xs × (length xs ≡ many)
all-from-numbers g f first zero [] is = (tt, refl)
all-from-numbers g f first (suc many) [] is = absurd (cc is)
all-from-numbers g f first zero (x ∷ xs) is = absurd (cc is)
all-from-numbers g f first (suc many) (x ∷ xs) is =
    let head : g x ≡ f first = cc is in
    let tail : map g xs ≡ map f (range_with_len (first + 1) many) = cc is in
    let rest = all-from-numbers g f (first + 1) many xs tail in
    ((head, rest.0), ap suc rest.1)

pub all-from-each : {A : Type 0} (P : ℕ → A → Type 0) (first : ℕ) (xs : List A) → ((i : ℕ) (d : A) → i < length xs → P (first + i) (get_or xs i d)) → AllFrom P first xs
all-from-each P first [] each = tt
all-from-each P first (x ∷ xs) each =
    let here : first + 0 ≡ first = omega arith in (
      subst (λ (n : ℕ). P n x) here (each 0 x (omega arith)),
      all-from-each P (first + 1) xs
          (λ i d low. let same : first + suc i ≡ first + 1 + i = omega arith in subst (λ (n : ℕ). P n (get_or xs i d)) same (each (suc i) d (omega (arith, low)))),
    )

-- ---- a part

module _ (size : Size) (owner : ℕ) (flows : List Flow) where
  pub new-fresh : (node : ℕ) (table : ShardStore) (fib : FibStore) (part : PartState) → shard_state_of table ≡ shard_after size owner flows [] → state_of fib ≡ fib_after size node owner flows []
      → IsNewPart size owner table fib part → IsFresh size flows node owner part
  new-fresh node table fib part opened shared new = record {
    of = record {
      sized = new.sized;
      numbered = new.numbered;
      table = ap shard_state_of new.table ∙ opened;
      fib = ap state_of new.opening ∙ shared;
    };
    unlinked = new.unlinked;
    list = new.list;
    turns = new.turns;
    clear = new.clear;
  }

-- a lane's readers of the owner with one more
pub takes-part : (owner : ℕ) (part : PartState) (lane : List ReadersState) (element : ReadersState) → slice_get lane owner ≡ Some element
    → (read : ReadersState) → read ≡ get_or lane owner read
    → (view : Viewed) → view.shard ≡ part.table.shard → view.list ≡ part.table.list → (fib : ReaderState) → fib ≡ reader_told part.fib
    → (now : ReadersState) → now ≡ record read { views = read.views ++ view ∷ []; fibs = read.fibs ++ fib ∷ [] } → TakesPart owner part lane (set lane owner now)
takes-part owner part lane element there read is_read view shard list fib told now is = record {
  many = length-set lane owner now;
  changes = record {
    element = element;
    there = there;
    changed = now;
    then = set_there lane owner element now there;
    others = λ other away. set_others lane owner other now away;
    holds = record {
      view = view;
      shard = shard;
      list = list;
      after_is = is
          ∙ ap (λ (r : ReadersState). record r { views = r.views ++ view ∷ []; fibs = r.fibs ++ fib ∷ [] }) (is_read ∙ get_or_from_slice_get lane owner element read there)
          ∙ ap (λ (f : ReaderState). record element { views = element.views ++ view ∷ []; fibs = element.fibs ++ f ∷ [] }) told;
    };
  };
}

-- ---- a lane

module _ (size : Size) (appliers : List ApplierState) where
  -- before the next node's first part
  pub node-begins : (lane : List ReadersState) → ReadsSoFar size (column appliers) lane → ReadsSoFar size (column_with appliers []) lane
  node-begins lane reads = record {
    many = reads.many;
    each = λ owner own there. subst (λ parts. ReadsColumn size owner parts own) (sym (append-nil (column appliers owner))) (reads.each owner own there);
  }

  module _ (parts : List PartState) where
    -- none of the next owner's is made
    not-begun : column_with appliers parts (length parts) ≡ column appliers (length parts)
    not-begun = ap (λ p. column appliers (length parts) ++ begun p) (slice_get_past parts (length parts) (omega arith)) ∙ append-nil (column appliers (length parts))

    pub is-read-to : (lane : List ReadersState) → ReadsSoFar size (column_with appliers parts) lane → length parts < owners_in size
        → HasAt (length parts) (IsReadTo size (length parts) (length appliers)) lane
    is-read-to lane reads low =
        let many = reads.many in
        let own = is-there lane (length parts) (omega (arith, low, many)) in
        let is = reads.each (length parts) own.0 own.1 in
        record {
          element = own.0;
          there = own.1;
          holds = record {
            sized = is.sized;
            numbered = is.numbered;
            many = each-many SeesTable (column_with appliers parts (length parts)) own.0.views is.tables
                ∙ ap length not-begun ∙ length-map appliers (λ (applier : ApplierState). slice_get applier.parts (length parts));
          };
        }

    column-more : (owner : ℕ) (all : List (Option PartState)) (part : PartState) (before after : ReadersState)
        → ReadsColumn size owner all before → HasOneMore part before after → ReadsColumn size owner (all ++ Some part ∷ []) after
    column-more owner all part before after reads more =
        subst (ReadsColumn size owner (all ++ Some part ∷ [])) (sym more.after_is)
        (record {
          sized = reads.sized;
          numbered = reads.numbered;
          tables = each-more SeesTable all before.views (Some part) more.view reads.tables (more.shard, more.list);
          fibs = each-more SeesFib all before.fibs (Some part) (reader_told part.fib) reads.fibs refl;
        })

    -- one part more
    pub part-taken : (part : PartState) (before after : List ReadersState) → ReadsSoFar size (column_with appliers parts) before
        → TakesPart (length parts) part before after → ReadsSoFar size (column_with appliers (parts ++ part ∷ [])) after
    part-taken part before after reads takes = record { many = takes.many ∙ reads.many; each = each }
      where
        here : ReadsColumn size (length parts) (column_with appliers (parts ++ part ∷ []) (length parts)) takes.changes.changed
        here =
            subst (λ all. ReadsColumn size (length parts) all takes.changes.changed)
            (ap (λ all. all ++ Some part ∷ []) not-begun ∙ ap (λ p. column appliers (length parts) ++ begun p) (sym (push-last parts part)))
            (column-more (length parts) (column_with appliers parts (length parts)) part takes.changes.element takes.changes.changed
            (reads.each (length parts) takes.changes.element takes.changes.there) takes.changes.holds)

        each : (owner : ℕ) (own : ReadersState) → slice_get after owner ≡ Some own → ReadsColumn size owner (column_with appliers (parts ++ part ∷ []) owner) own
        each owner own there =
            ⊎_elim
            (λ (same : owner ≡ length parts).
            let is : takes.changes.changed ≡ own = same_Some takes.changes.changed own (sym takes.changes.then ∙ subst (λ (n : ℕ). slice_get after n ≡ Some own) same there) in
            subst (λ (n : ℕ). ReadsColumn size n (column_with appliers (parts ++ part ∷ []) n) own) (sym same)
            (subst (ReadsColumn size (length parts) (column_with appliers (parts ++ part ∷ []) (length parts))) is here))
            (λ (away : owner ≢ length parts).
            subst (λ p. ReadsColumn size owner (column appliers owner ++ begun p) own) (sym (push-others parts part owner away))
            (reads.each owner own (sym (takes.changes.others owner away) ∙ there)))
            (cases_eq owner (length parts))

    -- all parts of the node are made
    pub node-ends : (node : ℕ) (lane : List ReadersState) → length parts ≡ owners_in size → ReadsSoFar size (column_with appliers parts) lane
        → ReadsSoFar size (column (appliers ++ record { node = node; parts = parts } ∷ [])) lane
    node-ends node lane all reads = record {
      many = reads.many;
      each = λ owner own there.
          let many = reads.many in
          let low = slice_get_within lane owner own there in
          let part = is-there parts owner (omega (arith, low, many, all)) in
          subst (λ all. ReadsColumn size owner all own)
          (ap (λ p. column appliers owner ++ begun p) part.1 ∙ ap (λ p. column appliers owner ++ p ∷ []) (sym part.1)
          ∙ sym (map-append (λ (applier : ApplierState). slice_get applier.parts owner) appliers (record { node = node; parts = parts } ∷ [])))
          (reads.each owner own there);
    }

-- ---- all nodes are seated

-- what stands in a column
column-there : (appliers : List ApplierState) (node owner : ℕ) (part : PartState) → part_at appliers node owner ≡ Some part → slice_get (column appliers owner) node ≡ Some (Some part)
column-there [] node owner part there = absurd cc
column-there (applier ∷ appliers) zero owner part there = ap (λ p. Some p) there
column-there (applier ∷ appliers) (suc node) owner part there = column-there appliers node owner part there

-- whose part it is
part-of : (appliers : List ApplierState) (node owner : ℕ) (part : PartState) → part_at appliers node owner ≡ Some part
    → (applier : ApplierState) × (slice_get appliers node ≡ Some applier) × (slice_get applier.parts owner ≡ Some part)
part-of [] node owner part there = absurd cc
part-of (applier ∷ appliers) zero owner part there = (applier, refl, there)
part-of (applier ∷ appliers) (suc node) owner part there = part-of appliers node owner part there

mapped-there : {A B : Type 0} (f : A → B) (xs : List A) (i : ℕ) (x : A) → slice_get xs i ≡ Some x → slice_get (map f xs) i ≡ Some (f x)
mapped-there f xs i x there = slice_get-map f xs i ∙ ap (option_map f) there

module _ (size : Size) (flows : List Flow) (appliers : List ApplierState) (fresh : AreFreshNodes size flows appliers) where
  -- the lane has seen what the part has
  has-seen : (lane : LaneState) → ReadsSoFar size (column appliers) lane.readers → (node owner : ℕ) (part : PartState) → part_at appliers node owner ≡ Some part → HasSeen lane node owner part
  has-seen lane reads node owner part there =
      let of = part-of appliers node owner part there in
      let many = reads.many in
      let parts_many = (fresh.each node of.0 of.1).many in
      let low = slice_get_within of.0.parts owner part of.2 in
      let own = is-there lane.readers owner (omega (arith, low, parts_many, many)) in
      let is = reads.each owner own.0 own.1 in
      let in_column = column-there appliers node owner part there in
      let view = each_at SeesTable (column appliers owner) own.0.views is.tables node (Some part) in_column in
      let fib = each_at SeesFib (column appliers owner) own.0.fibs is.fibs node (Some part) in_column in
      let seats : slice_get (all_seats lane.readers) owner ≡ Some (seats_of own.0) = mapped-there seats_of lane.readers owner own.0 own.1 in
      record {
        shard = ap (λ s. shard_of s node) seats ∙ mapped-there (λ (v : Viewed). v.shard) own.0.views node view.element view.there ∙ ap (λ s. Some s) view.holds.0;
        book = ap (λ s. book_of s node) seats ∙ mapped-there (λ (r : ReaderState). r.book) own.0.fibs node fib.element fib.there ∙ ap (λ (r : ReaderState). Some r.book) fib.holds;
        opening = ap (λ s. fib_part s node) seats
            ∙ get_or_from_slice_get (map (λ (r : ReaderState). r.opening) own.0.fibs) node fib.element.opening no_fib (mapped-there (λ (r : ReaderState). r.opening) own.0.fibs node fib.element fib.there)
            ∙ ap (λ (r : ReaderState). r.opening) fib.holds;
        records = ap (λ r. tables_of r node) own.1
            ∙ get_or_from_slice_get (map (λ (v : Viewed). v.list) own.0.views) node view.element.list [] (mapped-there (λ (v : Viewed). v.list) own.0.views node view.element view.there)
            ∙ view.holds.1;
        turns = ap (λ r. turns_of r node) own.1
            ∙ get_or_from_slice_get (map (λ (r : ReaderState). r.turns) own.0.fibs) node fib.element.turns [] (mapped-there (λ (r : ReaderState). r.turns) own.0.fibs node fib.element fib.there)
            ∙ ap (λ (r : ReaderState). r.turns) fib.holds;
      }

  module _ (readers : List ReadersState) (reads : ReadsSoFar size (column appliers) readers) where
    -- whose seats they are
    of-readers : (owner : ℕ) (own : Seats) → slice_get (all_seats readers) owner ≡ Some own → (r : ReadersState) × ReadsColumn size owner (column appliers owner) r × (seats_of r ≡ own)
    of-readers owner own there =
        let low = slice_get_within (all_seats readers) owner own there in
        let one = is-there readers owner (omega (arith, low, length-map readers seats_of)) in
        (one.0, reads.each owner one.0 one.1, same_Some (seats_of one.0) own (sym (mapped-there seats_of readers owner one.0 one.1) ∙ there))

    whole-seats : (owner : ℕ) (own : Seats) → slice_get (all_seats readers) owner ≡ Some own → IsWhole size owner own
    whole-seats owner own there =
        let of = of-readers owner own there in
        subst (IsWhole size owner) of.2
        (record {
          size_is = of.1.sized;
          owner_is = of.1.numbered;
          one_each = length-map of.0.views (λ (v : Viewed). v.shard) ∙ each-many SeesTable (column appliers owner) of.0.views of.1.tables
              ∙ length-map appliers (λ (applier : ApplierState). slice_get applier.parts owner) ∙ fresh.many;
        })

    whole-openings : (owner : ℕ) (own : Seats) → slice_get (all_seats readers) owner ≡ Some own → length own.openings ≡ size.nodes
    whole-openings owner own there =
        let of = of-readers owner own there in
        subst (λ (s : Seats). length s.openings ≡ size.nodes) of.2
        (length-map of.0.fibs (λ (r : ReaderState). r.opening) ∙ each-many SeesFib (column appliers owner) of.0.fibs of.1.fibs
        ∙ length-map appliers (λ (applier : ApplierState). slice_get applier.parts owner) ∙ fresh.many)

    pub reads-all : ReadsAll size appliers readers
    reads-all = record {
      whole = record { one_each = length-map readers seats_of ∙ reads.many; each = whole-seats };
      fibs = whole-openings;
      seen = λ lane is. has-seen lane (subst (ReadsSoFar size (column appliers)) (sym is) reads);
    }

-- ---- all lanes

module _ {A : Type 0} (readers_of : A → List ReadersState) (size : Size) (appliers : List ApplierState) where
  pub all-begin : (lanes : List A) → Every (λ (lane : A). ReadsSoFar size (column appliers) (readers_of lane)) lanes
      → Every (λ (lane : A). ReadsSoFar size (column_with appliers []) (readers_of lane)) lanes
  all-begin lanes reads =
      every-weaker (λ (lane : A). ReadsSoFar size (column appliers) (readers_of lane)) (λ (lane : A). ReadsSoFar size (column_with appliers []) (readers_of lane))
      (λ lane. node-begins size appliers (readers_of lane)) lanes reads

  module _ (parts : List PartState) where
    pub all-read-to : (owner node : ℕ) → length parts ≡ owner → node ≡ length appliers → owner < owners_in size → (lanes : List A)
        → Every (λ (lane : A). ReadsSoFar size (column_with appliers parts) (readers_of lane)) lanes
        → Every (λ (lane : A). HasAt owner (IsReadTo size owner node) (readers_of lane)) lanes
    all-read-to owner node many is low lanes reads =
        every-weaker (λ (lane : A). ReadsSoFar size (column_with appliers parts) (readers_of lane)) (λ (lane : A). HasAt owner (IsReadTo size owner node) (readers_of lane))
        (λ lane read.
        subst (λ (o : ℕ). HasAt o (IsReadTo size o node) (readers_of lane)) many
        (subst (λ (n : ℕ). HasAt (length parts) (IsReadTo size (length parts) n) (readers_of lane)) (sym is)
        (is-read-to size appliers parts (readers_of lane) read (omega (arith, many, low)))))
        lanes reads

    pub all-taken : (part : PartState) (owner : ℕ) → length parts ≡ owner → (before after : List A)
        → Every (λ (lane : A). ReadsSoFar size (column_with appliers parts) (readers_of lane)) before
        → Each (λ (was now : A). TakesPart owner part (readers_of was) (readers_of now)) before after
        → Every (λ (lane : A). ReadsSoFar size (column_with appliers (parts ++ part ∷ [])) (readers_of lane)) after
    all-taken part owner many before after reads takes =
        passed_on (λ (lane : A). ReadsSoFar size (column_with appliers parts) (readers_of lane)) (λ (was now : A). TakesPart owner part (readers_of was) (readers_of now))
        (λ (lane : A). ReadsSoFar size (column_with appliers (parts ++ part ∷ [])) (readers_of lane))
        (λ was now read takes. part-taken size appliers parts part (readers_of was) (readers_of now) read
        (subst (λ (n : ℕ). TakesPart n part (readers_of was) (readers_of now)) (sym many) takes))
        before after reads takes

    pub all-end : (node : ℕ) → length parts ≡ owners_in size → (lanes : List A)
        → Every (λ (lane : A). ReadsSoFar size (column_with appliers parts) (readers_of lane)) lanes
        → Every (λ (lane : A). ReadsSoFar size (column (appliers ++ record { node = node; parts = parts } ∷ [])) (readers_of lane)) lanes
    all-end node all lanes reads =
        every-weaker (λ (lane : A). ReadsSoFar size (column_with appliers parts) (readers_of lane))
        (λ (lane : A). ReadsSoFar size (column (appliers ++ record { node = node; parts = parts } ∷ [])) (readers_of lane))
        (λ lane. node-ends size appliers parts node (readers_of lane) all) lanes reads

  pub all-read : (flows : List Flow) → AreFreshNodes size flows appliers → (lanes : List A) → Every (λ (lane : A). ReadsSoFar size (column appliers) (readers_of lane)) lanes
      → Every (λ (lane : A). ReadsAll size appliers (readers_of lane)) lanes
  all-read flows fresh lanes reads =
      every-weaker (λ (lane : A). ReadsSoFar size (column appliers) (readers_of lane)) (λ (lane : A). ReadsAll size appliers (readers_of lane))
      (λ lane. reads-all size flows appliers fresh (readers_of lane)) lanes reads
