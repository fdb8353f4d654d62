mod BulkLemmas
