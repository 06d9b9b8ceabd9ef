mod AddressTable
