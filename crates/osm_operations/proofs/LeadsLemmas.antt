-- A list of operations leads on by one step more.
use Rattle.std.proofs.Common.{◌≡◌, ◌++◌, ◌∷◌, [], List, ℕ, refl, subst}
use Rattle.osm_model.specs.Filter.{FilterValue}
use Rattle.osm_store.specs.Files.{Files}
use Rattle.osm_operations.specs.Stepping.{IsStep, LeadsFrom, LeadsTo}
use Rattle.osm_operations.specs.declared.operation.Operation.{Operation}
use Rattle.osm_operations.specs.declared.operation.Reply.{Reply}
use Rattle.osm_operations.specs.declared.world.World.{World}

leads-snoc : (given : FilterValue) (dir save changes extract : List ℕ) (es : List Operation) (rs : List Reply) (e : Operation) (r : Reply)
    (a b c : World) → LeadsTo given dir save changes extract es rs a b → IsStep given dir save changes extract e r b c
    → LeadsTo given dir save changes extract (es ++ e ∷ []) (rs ++ r ∷ []) a c
leads-snoc given dir save changes extract [] [] e r a b c h s = record {
  world = c;
  to = subst (λ (w : World). IsStep given dir save changes extract e r w c) h s;
  from = refl;
}
leads-snoc given dir save changes extract (d ∷ es) [] e r a b c h s = absurd h
leads-snoc given dir save changes extract [] (q ∷ rs) e r a b c h s = absurd h
leads-snoc given dir save changes extract (d ∷ es) (q ∷ rs) e r a b c h s = record {
  world = h.world;
  to = h.to;
  from = leads-snoc given dir save changes extract es rs e r h.world b c h.from s;
}

-- from the first files to the world after one operation more
pub leads_on : (given : FilterValue) (dir save changes extract : List ℕ) (es : List Operation) (rs : List Reply) (e : Operation) (r : Reply)
    (start : Files) (b c : World) → LeadsFrom given es rs dir save changes extract start b → IsStep given dir save changes extract e r b c
    → LeadsFrom given (es ++ e ∷ []) (rs ++ r ∷ []) dir save changes extract start c
leads_on given dir save changes extract es rs e r start b c h s = record {
  first = h.first;
  is_first = h.is_first;
  leads = leads-snoc given dir save changes extract es rs e r h.first b c h.leads s;
}
