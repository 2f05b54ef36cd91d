-- Chains whose nodes are rewritten by what is known there.
use Rattle.std.proofs.Common.{◌≡◌, ◌⊎◌, inl, inr, ℕ, ◌<◌, Bool, true, false, List, [], ◌∷◌, length, map, replicate, Option, Some, None, refl, sym, ◌∙◌, ap, subst, arith, eq-eqb, eqb-true, true≢false}
use Rattle.std.specs.Prelude.{IfSome, if◌then◌else◌, slice_get, slice_set, slice_index_or}
use Rattle.std.proofs.lemmas.Bool.{cases_eq}
use Rattle.std.proofs.lemmas.List.{length-map, length-replicate}
use Rattle.std.proofs.lemmas.Option.{slice_get_within}
use Rattle.pc_word.specs.declared.item.Item.{Item}
use Rattle.pc_word.specs.declared.item.Item.TheVariants.{Bin, Copy, Load, Store, Print, Read, More}
use Rattle.pc_word.specs.declared.item.OpCode.{OpCode}
use Rattle.pc_word.specs.declared.item.Operand.{Operand}
use Rattle.pc_word.specs.Items.{dest_of}
use Rattle.pc_word.proofs.Lists.{set_length}
use Rattle.pc_flow.specs.declared.node.FlowNode.{FlowNode}
use Rattle.pc_flow.specs.declared.node.FlowNode.TheVariants.{Op, Test, Stop, Trap}
use Rattle.pc_flow.specs.FlowGraph.{FlowGraph, IsFlow, variables}
use Rattle.pc_flow.specs.Reachable.{IsReachableNode, Entry, Behind}
use Rattle.pc_pass.proofs.Changes.{reachable_there, node_there}
use Rattle.pc_scalar.specs.declared.before.Predecessor.{Predecessor}
use Rattle.pc_scalar.specs.declared.before.Predecessor.TheVariants.{Nothing, Only, Several}
use Rattle.pc_scalar.specs.declared.rule.Rule.{Rule}
use Rattle.pc_scalar.specs.declared.rule.Rule.TheVariants.{CopiedNames, KnownValues}
use Rattle.pc_scalar.specs.Chain.{FollowsAlone}
use Rattle.pc_scalar.specs.models.Before.{IsBefore, AreBefore}
use Rattle.pc_scalar.specs.models.Known.{kept, after_write, after, stays_true, holder, reused, rewritten_item, rewritten, none_known, KnownAt, At_head, Behind_item}
use Rattle.pc_scalar.specs.models.Rewriting.{follows, begins, ChainFrom, Begins, Goes_on, Written, Rewrites}
use Rattle.pc_word.proofs.Places.{set_there, set_elsewhere}

-- ---- what follows alone

-- a node that is noted so follows alone
pub follows_alone : (flow : FlowGraph) (at to : ℕ) (known : Predecessor) → IsFlow flow → IsBefore flow (length flow.nodes) to known → follows at known ≡ true → FollowsAlone flow at to
follows_alone flow at to Nothing is h e = absurd (cc)
follows_alone flow at to (Only from) is h e =
    subst (λ (n : ℕ). FollowsAlone flow n to) (eqb-true from at e) (record {
      reached = h.2.reached;
      item = h.2.item;
      there = h.2.there;
      not_entry = h.1;
      only = λ other node reached there edge. h.3 other node (reachable_there flow other is reached) reached there edge;
    })
follows_alone flow at to Several is h e = absurd (cc)

-- and no other does
pub none_follows : (flow : FlowGraph) (at to : ℕ) (known : Predecessor) → IsFlow flow → IsBefore flow (length flow.nodes) to known → follows at known ≡ false → FollowsAlone flow at to → ⊥
none_follows flow at to Nothing is h e f = h.1 at (Op f.item to) (reachable_there flow at is f.reached) f.reached f.there refl
none_follows flow at to (Only from) is h e f =
    let same : at ≡ from = h.3 at (Op f.item to) (reachable_there flow at is f.reached) f.reached f.there refl in
    true≢false (sym (eq-eqb from at (sym same)) ∙ e)
none_follows flow at to Several is h e f = h at f

-- an item leads to one node
pub follows_next : (flow : FlowGraph) (at to next : ℕ) (item : Item) → slice_get flow.nodes at ≡ Some (Op item next) → FollowsAlone flow at to → next ≡ to
follows_next flow at to next item there f = let is = f.there in let same : Op item next ≡ Op f.item to = (cc) in (cc)

-- a chain from a node that none follows alone is that node
pub chain_ends_here : (flow : FlowGraph) (at to : ℕ) → ((next : ℕ) → FollowsAlone flow at next → ⊥) → ChainFrom flow at to → at ≡ to
chain_ends_here flow _ _ none Begins = refl
chain_ends_here flow _ to none (Goes_on {from = from} {next = next} first rest) = absurd (none next first)

-- a chain goes on from the one that follows
pub chain_goes_on : (flow : FlowGraph) (at next to : ℕ) → FollowsAlone flow at next → ChainFrom flow at to → (at ≡ to) ⊎ ChainFrom flow next to
chain_goes_on flow _ next _ f Begins = inl refl
chain_goes_on flow _ next to f (Goes_on {from = from} {next = other} first rest) =
    let same : other ≡ next = follows_next flow from next other first.item first.there f in
    inr (subst (λ (n : ℕ). ChainFrom flow n to) same rest)

-- a chain may end one later
chain_more : (flow : FlowGraph) (head at next : ℕ) → ChainFrom flow head at → FollowsAlone flow at next → ChainFrom flow head next
chain_more flow _ _ next Begins f = Goes_on f Begins
chain_more flow _ at next (Goes_on {from = from} {next = second} first rest) f = Goes_on first (chain_more flow second at next rest f)

-- ---- what is known

-- what a rewritten item writes is what the item writes
pub rewritten_dest : (rule : Rule) (known : List (Option Item)) (item : Item) → dest_of (rewritten_item rule known item) ≡ dest_of item
rewritten_dest CopiedNames known (Bin op dest left right) = refl
rewritten_dest CopiedNames known (Copy dest from) = refl
rewritten_dest CopiedNames known (Load dest array index) = refl
rewritten_dest CopiedNames known (Store array index value) = refl
rewritten_dest CopiedNames known (Print value) = refl
rewritten_dest CopiedNames known (Read dest) = refl
rewritten_dest CopiedNames known (More dest) = refl
rewritten_dest KnownValues known (Bin op dest left right) = reused_dest (holder op left right known) op dest left right
  where
    reused_dest : (found : Option ℕ) (op : OpCode) (dest : ℕ) (left right : Operand) → dest_of (reused found (Bin op dest left right) dest) ≡ Some dest
    reused_dest None op dest left right = refl
    reused_dest (Some name) op dest left right = refl
rewritten_dest KnownValues known (Copy dest from) = refl
rewritten_dest KnownValues known (Load dest array index) = refl
rewritten_dest KnownValues known (Store array index value) = refl
rewritten_dest KnownValues known (Print value) = refl
rewritten_dest KnownValues known (Read dest) = refl
rewritten_dest KnownValues known (More dest) = refl

learnt_length : (b : Bool) (item : Item) (dest : ℕ) (known : List (Option Item)) → length (if b then slice_set known dest (Some item) else known) ≡ length known
learnt_length true item dest known = set_length known dest (Some item)
learnt_length false item dest known = refl

after_write_length : (item : Item) (dest : Option ℕ) (known : List (Option Item)) → length (after_write item dest known) ≡ length known
after_write_length item None known = refl
after_write_length item (Some dest) known = learnt_length (stays_true item) item dest (map (kept dest) known) ∙ length-map known (kept dest)

-- as much is known of as many variables
pub after_length : (item : Item) (known : List (Option Item)) → length (after item known) ≡ length known
after_length item known = after_write_length item (dest_of item) known

-- of all variables
pub known_length : (flow : FlowGraph) (rule : Rule) (at : ℕ) (known : List (Option Item)) → KnownAt flow rule at known → length known ≡ variables
known_length flow rule _ _ (At_head none) = length-replicate {A = Option Item} variables None
known_length flow rule _ _ (Behind_item {from = from} {at = at} {known = known} {item = item} f there before) =
    after_length (rewritten_item rule known item) known ∙ known_length flow rule from known before

-- one thing is known at a node
pub known_once : (flow : FlowGraph) (rule : Rule) (at : ℕ) (known other : List (Option Item)) → KnownAt flow rule at known → KnownAt flow rule at other → known ≡ other
known_once flow rule _ _ _ (At_head none) (At_head also) = refl
known_once flow rule _ _ _ (At_head none) (Behind_item {from = from} f there before) = absurd (none from f)
known_once flow rule _ _ _ (Behind_item {from = from} f there before) (At_head none) = absurd (none from f)
known_once flow rule _ _ _ (Behind_item {from = from} {at = at} {known = known} {item = item} f there before) (Behind_item {from = second} {known = more} {item = again} g stands earlier) =
    let same : second ≡ from = f.only second (Op again at) g.reached stands refl in
    let stands_same = subst (λ (n : ℕ). slice_get flow.nodes n ≡ Some (Op again at)) same stands in
    let item_same : item ≡ again = (let e : Op item at ≡ Op again at = (cc) in cc) in
    let known_same = known_once flow rule from known more before (subst (λ (n : ℕ). KnownAt flow rule n more) same earlier) in
    ap (λ (k : List (Option Item)). after (rewritten_item rule k item) k) known_same ∙ ap (λ (i : Item). after (rewritten_item rule more i) more) item_same

-- ---- nodes that were rewritten

module _ (flow : FlowGraph) (rule : Rule) (nodes new : List FlowNode) (at : ℕ) (known : List (Option Item)) (node : FlowNode)
    (known_at : KnownAt flow rule at known) (there : slice_get flow.nodes at ≡ Some node) (long : length nodes ≡ length flow.nodes)
    (is : new ≡ slice_set nodes at (rewritten rule known node)) where
  -- the node is
  pub written_here : Written flow rule new at
  written_here = record {
    known = known;
    known_at = known_at;
    node = node;
    there = there;
    stands = ap (λ (l : List FlowNode). slice_get l at) is ∙ set_there nodes at (rewritten rule known node) (omega (arith, slice_get_within flow.nodes at node there, long));
  }

  -- and those that were are still
  pub written_still : (other : ℕ) → Written flow rule nodes other → Written flow rule new other
  written_still other w = elim (cases_eq at other) [
    | inl same ↦ subst (Written flow rule new) same written_here
    | inr apart ↦ record {
      known = w.known;
      known_at = w.known_at;
      node = w.node;
      there = w.there;
      stands = ap (λ (l : List FlowNode). slice_get l other) is ∙ set_elsewhere nodes at other (rewritten rule known node) apart ∙ w.stands;
    }
  ]

  pub rewrites_more : Rewrites flow rule nodes → Rewrites flow rule new
  rewrites_more before = record {
    as_many = ap length is ∙ set_length nodes at (rewritten rule known node) ∙ long;
    each = λ other this stands. elim (cases_eq at other) [
      | inl same ↦ inr (subst (Written flow rule new) same written_here)
      | inr apart ↦ elim (before.each other this stands) [
        | inl old ↦ inl (ap (λ (l : List FlowNode). slice_get l other) is ∙ set_elsewhere nodes at other (rewritten rule known node) apart ∙ old)
        | inr w ↦ inr (written_still other w)
      ]
    ];
  }

-- nodes that are as they were
pub rewrites_first : (flow : FlowGraph) (rule : Rule) (nodes : List FlowNode) → nodes ≡ flow.nodes → Rewrites flow rule nodes
rewrites_first flow rule nodes e = record { as_many = ap length e; each = λ at node there. inl (ap (λ (l : List FlowNode). slice_get l at) e ∙ there) }

-- ---- heads

-- a node that can be reached is noted
noted_some : (flow : FlowGraph) (at : ℕ) (known : Predecessor) → IsFlow flow → IsReachableNode flow at → IsBefore flow (length flow.nodes) at known → known ≡ Nothing → ⊥
noted_some flow _ Nothing is Entry h e = h.0 refl
noted_some flow _ Nothing is (Behind {from = from} {node = node} before there edge) h e = h.1 from node (reachable_there flow from is before) before there edge
noted_some flow at (Only from) is reached h e = cc
noted_some flow at Several is reached h e = cc

-- where a chain begins that leads to a node
pub record HasHead (flow : FlowGraph) (table : List Predecessor) (at : ℕ) : Type 0 where
  pub head : ℕ
  pub there : head < length flow.nodes
  pub alone : (from : ℕ) → FollowsAlone flow from head → ⊥
  pub begins : begins (slice_index_or table head Nothing) ≡ true
  pub chain : ChainFrom flow head at

head_at : (flow : FlowGraph) (table : List Predecessor) (at : ℕ) (known : Predecessor) → IsFlow flow → IsReachableNode flow at → slice_index_or table at Nothing ≡ known
    → IsBefore flow (length flow.nodes) at known → ((from : ℕ) → FollowsAlone flow from at → HasHead flow table from) → HasHead flow table at
head_at flow table at Nothing is reached e h before = absurd (noted_some flow at Nothing is reached h refl)
head_at flow table at (Only from) is reached e h before =
    let f = follows_alone flow from at (Only from) is h (eq-eqb from from refl) in
    let head = before from f in
    record { head = head.head; there = head.there; alone = head.alone; begins = head.begins; chain = chain_more flow head.head from at head.chain f }
head_at flow table at Several is reached e h before =
    record { head = at; there = reachable_there flow at is reached; alone = h; begins = ap begins e; chain = Begins }

-- each node that can be reached is on a chain
pub has_head : (flow : FlowGraph) (table : List Predecessor) (at : ℕ) → IsFlow flow → AreBefore flow table → IsReachableNode flow at → HasHead flow table at
has_head flow table _ is are Entry =
    head_at flow table flow.entry (slice_index_or table flow.entry Nothing) is Entry refl (are.each flow.entry is.begins) (λ from f. absurd (f.not_entry refl))
has_head flow table _ is are (Behind {from = from} {to = at} {node = node} before there edge) =
    let below = has_head flow table from is are before in
    let reached : IsReachableNode flow at = Behind before there edge in
    head_at flow table at (slice_index_or table at Nothing) is reached refl (are.each at (reachable_there flow at is reached))
    (λ other f. subst (HasHead flow table) (f.only from node before there edge) below)

-- a node that begins a chain is followed by none alone
pub begins_alone : (flow : FlowGraph) (at : ℕ) (known : Predecessor) → IsBefore flow (length flow.nodes) at known → begins known ≡ true
    → (from : ℕ) → FollowsAlone flow from at → ⊥
begins_alone flow at Nothing h e from f = absurd (cc)
begins_alone flow at (Only other) h e from f = absurd (cc)
begins_alone flow at Several h e from f = h from f

-- ---- one node of a chain

-- a rewritten item is of an item
pub record OfItem (flow : FlowGraph) (rule : Rule) (known : List (Option Item)) (at next : ℕ) (item : Item) : Type 0 where
  pub old : Item
  pub there : slice_get flow.nodes at ≡ Some (Op old next)
  pub is : rewritten_item rule known old ≡ item

pub of_item : (flow : FlowGraph) (rule : Rule) (known : List (Option Item)) (at next : ℕ) (item : Item) (node : FlowNode) → slice_get flow.nodes at ≡ Some node
    → Op item next ≡ rewritten rule known node → OfItem flow rule known at next item
of_item flow rule known at next item (Op old to) there e =
    let same : to ≡ next = (cc) in
    record { old = old; there = subst (λ (n : ℕ). slice_get flow.nodes at ≡ Some (Op old n)) same there; is = cc }
of_item flow rule known at next item (Test on on_yes on_no turn) there e = absurd (cc)
of_item flow rule known at next item Stop there e = absurd (cc)
of_item flow rule known at next item (Trap kind line) there e = absurd (cc)

-- what it writes is a variable
pub of_item_writes : (flow : FlowGraph) (rule : Rule) (known : List (Option Item)) (at next : ℕ) (item : Item) → IsFlow flow → length known ≡ variables
    → OfItem flow rule known at next item → IfSome (dest_of item) (λ name. name < length known)
of_item_writes flow rule known at next item is long of =
    let fits = (is.nodes_fit at (Op of.old next) of.there).0.writes in
    let same : dest_of item ≡ dest_of of.old = ap dest_of (sym of.is) ∙ rewritten_dest rule known of.old in
    rw (same, long) fits

-- what is known after it
pub of_item_known : (flow : FlowGraph) (rule : Rule) (known new : List (Option Item)) (at next : ℕ) (item : Item) → OfItem flow rule known at next item
    → FollowsAlone flow at next → KnownAt flow rule at known → new ≡ after item known → KnownAt flow rule next new
of_item_known flow rule known new at next item of f before e =
    subst (KnownAt flow rule next) (ap (λ (i : Item). after i known) of.is ∙ sym e) (Behind_item f of.there before)

-- ---- a chain

-- what is known on the way along a chain
pub record OnChain (flow : FlowGraph) (rule : Rule) (first : List FlowNode) (head : ℕ) (known : List (Option Item)) (nodes : List FlowNode) (at : ℕ) : Type 0 where
  pub known_at : KnownAt flow rule at known
  pub there : at < length flow.nodes
  pub rewrites : Rewrites flow rule nodes
  pub still : (other : ℕ) → Written flow rule first other → Written flow rule nodes other
  pub chain : (other : ℕ) → ChainFrom flow head other → Written flow rule nodes other ⊎ ChainFrom flow at other

-- at its head
pub on_chain_first : (flow : FlowGraph) (rule : Rule) (nodes : List FlowNode) (head : ℕ) (known : List (Option Item)) → known ≡ none_known
    → ((from : ℕ) → FollowsAlone flow from head → ⊥) → head < length flow.nodes → Rewrites flow rule nodes → OnChain flow rule nodes head known nodes head
on_chain_first flow rule nodes head known e alone there rewrites = record {
  known_at = subst (KnownAt flow rule head) (sym e) (At_head alone);
  there = there;
  rewrites = rewrites;
  still = λ other w. w;
  chain = λ other c. inr c;
}

module _ (flow : FlowGraph) (rule : Rule) (first : List FlowNode) (head : ℕ) (known : List (Option Item)) (nodes new : List FlowNode) (at : ℕ)
    (on : OnChain flow rule first head known nodes at)
    (is : (node : FlowNode) → slice_get flow.nodes at ≡ Some node → new ≡ slice_set nodes at (rewritten rule known node)) where
  abbrev found : (node : FlowNode) × (slice_get flow.nodes at ≡ Some node)
  found = node_there flow.nodes at on.there

  here : Written flow rule new at
  here = written_here flow rule nodes new at known found.0 on.known_at found.1 on.rewrites.as_many (is found.0 found.1)

  keep : (other : ℕ) → Written flow rule nodes other → Written flow rule new other
  keep = written_still flow rule nodes new at known found.0 on.known_at found.1 on.rewrites.as_many (is found.0 found.1)

  more : Rewrites flow rule new
  more = rewrites_more flow rule nodes new at known found.0 on.known_at found.1 on.rewrites.as_many (is found.0 found.1) on.rewrites

  -- one node on
  pub on_chain_more : (next : ℕ) (later : List (Option Item)) → FollowsAlone flow at next → KnownAt flow rule next later → IsFlow flow → OnChain flow rule first head later new next
  on_chain_more next later f known_next flow_is = record {
    known_at = known_next;
    there = (flow_is.nodes_fit at (Op f.item next) f.there).1.target;
    rewrites = more;
    still = λ other w. keep other (on.still other w);
    chain = λ other c. elim (on.chain other c) [
      | inl w ↦ inl (keep other w)
      | inr rest ↦ elim (chain_goes_on flow at next other f rest) [
        | inl same ↦ inl (subst (Written flow rule new) same here)
        | inr behind ↦ inr behind
      ]
    ];
  }

  -- at its end
  pub on_chain_ends : ((next : ℕ) → FollowsAlone flow at next → ⊥)
      → Rewrites flow rule new × ((other : ℕ) → Written flow rule first other → Written flow rule new other) × ((other : ℕ) → ChainFrom flow head other → Written flow rule new other)
  on_chain_ends none = (
    more,
    λ other w. keep other (on.still other w),
    λ other c. elim (on.chain other c) [
      | inl w ↦ keep other w
      | inr rest ↦ subst (Written flow rule new) (chain_ends_here flow at other none rest) here
    ],
  )

-- nothing is known once everything is dropped
abbrev pub dropped : Option Item → Option Item
dropped fact = None

pub all_dropped : (known : List (Option Item)) → map dropped known ≡ replicate (length known) (dropped None)
all_dropped [] = refl
all_dropped (fact ∷ known) = ap (λ (l : List (Option Item)). None ∷ l) (all_dropped known)

pub dropped_is : (known new : List (Option Item)) → new ≡ replicate (length known) (dropped None) → length known ≡ variables → new ≡ none_known
dropped_is known new e long = e ∙ ap (λ (n : ℕ). replicate n (dropped None)) long
