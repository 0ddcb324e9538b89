mod CallLemmas
mod DrillLemmas
mod ServerLemmas
mod ProxyLemmas
