-- Which lists of targets does our mover recognise, and as which order? Our mover has the demand on lists. Assumes nothing.
use mathlib.Core.Path.{◌≡◌, sym, ap, ◌∙◌}
use mathlib.Core.Bool.{true}
use mathlib.Core.List.{List}
use Prim.Native.Nat.{ℕ, ◌<◌, ◌^◌}
use native.Mathlib.Omega.{arith}
use lib.ListN.{get_or, length}
use lib.Seq.{get_or-take}
use Rattle.bank.specs.Limits.{ROWS}
use Rattle.bank.specs.declared.Geometry.{Geometry}
use Rattle.bank.specs.Geometry.{in_limits}
use Rattle.bank.proofs.Limits.{limits→allowed}
use Rattle.order.specs.declared.Order.{Order}
use Rattle.order.specs.Order.{judgement}
use Rattle.order.proofs.Accepted.{complement_below, judgement→accepted, matrix_below, matrix_length, place_zero}
use Rattle.order.proofs.Judged.{good_form, regular_none}
use Rattle.addresses.specs.declared.Target.{Target}
use Rattle.addresses.specs.Address.{target_of}
use Rattle.addresses.proofs.Main.{sends}
use Rattle.lists.specs.Recognised.{list_number, recognised}
use Rattle.lists.proofs.Main.{FoundOrder, found_order, gives_0, gives_11, gives_12, gives_3, no_z, only_giving, own_list, refused, regularly, shows_3}
use Rattle.demands.specs.Ours.{ours}
use Rattle.demands.specs.Recognises.{OwnList, Recognises, order_in}

-- ---- what is found, in a geometry of its n
module _ (list : List ℕ) (is : list_number list ≡ 0) (g : Geometry) (inside : in_limits g ≡ true) (n_is : g.n ≡ (recognised list).n) where
  abbrev order : Order
  order = order_in g (recognised list)

  found : FoundOrder list (recognised list)
  found = found_order list is

  taken : judgement order ≡ 0
  taken =
      regular_none order inside
      (good_form order (λ i h. rw n_is (row i (rw n_is at h))) (rw n_is found.by.of_bits.complement) (λ i h l. found.spare i (rw n_is at h)))
      (rw n_is found.regular)
    where
      row : (i : ℕ) → i < (recognised list).n → get_or (recognised list).rows i 0 < 2 ^ (recognised list).n
      row i h = rw (get_or-take (recognised list).n (recognised list).rows i 0 h) at (found.by.of_bits.below i h)

  sends_entry : (x : ℕ) → x < length list → target_of order x ≡ record { number = 0; address = record { 0 = get_or list x 0 }; z = record { 0 = 0 } }
  sends_entry x h =
      sends order found.room taken x (rw n_is (rw found.by.sized.length_is at h))
      ∙ ap {B = Target} (λ (y : ℕ). record { number = 0; address = record { 0 = y }; z = record { 0 = 0 } }) (rw n_is (sym (found.by.entry x h)))

-- ---- an order's own list
own_recognised : (order : Order) → length order.rows ≡ ROWS → judgement order ≡ 0 → (list : List ℕ) → OwnList ours order list
    → recognised list ≡ record { number = 0; n = order.geometry.n; rows = order.rows; complement = order.complement; z = record { 0 = 0 } }
own_recognised order room taken list o =
    let a = judgement→accepted order taken in
    let k = limits→allowed order.geometry a.inside in
    own_list list order.geometry.n order.rows order.complement room (place_zero order a.form) a.regular
    (record {
      sized = record { from = k.n_low; upto = k.n_high; length_is = o.whole };
      of_bits = record {
        long = matrix_length order a.inside room;
        below = matrix_below order a.inside room a.form;
        complement = complement_below order a.form;
      };
      entry = λ x h. o.entry x h ∙ ap (λ (t : Target). t.address.0) (sends order room taken x (rw o.whole at h));
    })

pub ours_recognises : Recognises ours
unfolding recognised
ours_recognises =
    record {
      every = λ list. record {
        gives_11 = gives_11 list;
        gives_12 = gives_12 list;
        gives_3 = gives_3 list;
        gives_0 = gives_0 list;
        regular = regularly list;
        found = λ e. (found_order list e).by;
        no_z = λ e. no_z list (λ t. omega (arith, e, t));
        refused = refused list;
        shows_3 = shows_3 list;
        else_no_z = λ f. no_z list;
        taken = taken list;
        sends = sends_entry list;
      };
      only = only_giving;
      own = own_recognised;
    }
